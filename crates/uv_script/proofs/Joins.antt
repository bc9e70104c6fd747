-- Lines, joined.
use Rattle.std.proofs.Common.{◌≡◌, ℕ, List, [], ◌∷◌, refl, ◌∙◌, ap, Bool, true, false, cond}
use Rattle.std.specs.List.{concat}
use Rattle.uv_script.specs.Lines.{lines_of, in_front, LinesJoin}

-- a byte in front of lines is in front of what they join to
concat-in_front : (b : ℕ) (texts : List (List ℕ)) → concat (in_front b texts) ≡ b ∷ concat texts
concat-in_front b [] = refl
concat-in_front b (text ∷ texts) = refl

concat-split : (feed : Bool) (b : ℕ) (texts : List (List ℕ)) → concat (cond feed ((b ∷ []) ∷ texts) (in_front b texts)) ≡ b ∷ concat texts
concat-split true b texts = refl
concat-split false b texts = concat-in_front b texts

pub lines-join : LinesJoin
lines-join [] = refl
lines-join (b ∷ bs) = concat-split _ b (lines_of bs) ∙ ap (λ v. b ∷ v) (lines-join bs)
