-- Lines played with their marks.
use Rattle.std.proofs.Common.{◌≡◌, ℕ, ◌+◌, List, [], ◌∷◌, ◌++◌, Some, slice_get, take, refl, ap, ◌∙◌}
use Rattle.uv_script.specs.declared.form.Line.{Line}
use Rattle.uv_run.specs.Chains.{Chain}
use Rattle.uv_run.specs.Lines.{PlaysAll, PlaysNext, PlaysOne}
use Rattle.uv_run.specs.Marks.{PlaysMark, PlaysMarks, ToldMarks, mark_at, told_marks}
use Rattle.uv_run.specs.Stand.{Stand}
use Rattle.uv_run.proofs.ChainLaws.{Chain-take}

pub no_marks : (s : Stand) (marks : List ℕ) → marks ≡ [] → PlaysMarks s [] s marks
no_marks s marks none = record { asked = []; plays = ap (told_marks s []) none }

-- one more line, and its mark
pub marks_more :
    (s : Stand) (lines : List Line) (place : ℕ) (s1 : Stand) (l : Line) (s2 : Stand) (marks more : List ℕ) (mark : ℕ) → slice_get lines place ≡ Some l → PlaysMarks s (take place lines) s1 marks → PlaysOne s1 l.number l.form s2
    → mark ≡ mark_at s1 → more ≡ marks ++ mark ∷ [] → PlaysMarks s (take (place + 1) lines) s2 more
marks_more s lines place s1 l s2 marks more mark at some one is pushed = record {
  asked = some.asked ++ one.asked;
  plays =
      Chain-take PlaysMark (told_marks s [] []) lines place (told_marks s1 some.asked marks) l (told_marks s2 (some.asked ++ one.asked) more) at some.plays
      (record { plays = record { more = one.asked; plays = one.plays; asks = refl }; marks = pushed ∙ ap (λ (k : ℕ). marks ++ k ∷ []) is });
}

-- without their marks
chain_of : (t : ToldMarks) (lines : List Line) (t' : ToldMarks) → Chain PlaysMark t lines t' → Chain PlaysNext t.told lines t'.told
chain_of t [] t' same = ap (λ (v : ToldMarks). v.told) same
chain_of t (l ∷ lines) t' links = record { mid = links.mid.told; link = links.link.plays; others = chain_of links.mid lines t' links.others }

pub plays_of : (s : Stand) (lines : List Line) (s' : Stand) (marks : List ℕ) (m : PlaysMarks s lines s' marks) → PlaysAll s lines s' m.asked
plays_of s lines s' marks m = chain_of (told_marks s [] []) lines (told_marks s' m.asked marks) m.plays
