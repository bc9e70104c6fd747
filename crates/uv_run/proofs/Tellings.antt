-- What is told has the texts of all replies, in their order.
use Rattle.std.proofs.Common.{◌≡◌, ℕ, List, [], ◌∷◌, ◌++◌, Option, Some, None, map, refl, ap, sym, subst, inl, inr, append-nil}
use Rattle.std.specs.Prelude.{option_to_list}
use Rattle.uv_report.specs.declared.record.Said.{Said}
use Rattle.uv_report.specs.declared.saying.Saying.{Saying}
use Rattle.uv_script.specs.declared.form.Line.{Line}
use Rattle.uv_run.specs.declared.heard.Ended.{Ended}
use Rattle.uv_run.specs.declared.reply.Reply.{Reply}
use Rattle.uv_run.specs.declared.reply.Telling.{Telling}
use Rattle.uv_run.specs.declared.reply.Telling.TheVariants as telling
use Rattle.uv_run.specs.Asking.{Asking}
use Rattle.uv_run.specs.DataPath.{Shown, after_shown, said_under}
use Rattle.uv_run.specs.Follows.{AreAmong, EndsAll, RunsOutAll, all_actors, said_of, start_stand}
use Rattle.uv_run.specs.Lines.{PlaysAll, all_files}
use Rattle.uv_run.specs.Site.{Turned}
use Rattle.uv_run.specs.Stand.{Stand, after_turned, ended_reply, event_said, reply_by, reply_text, said_if, with_said}
use Rattle.uv_run.proofs.Continuing.{Continues}
use Rattle.uv_run.proofs.Keeping.{kept_ends, kept_finish, kept_lines}

-- Texts among texts.

pub among_more : (xs said more : List Said) → AreAmong xs said → AreAmong xs (said ++ more)
among_more [] said more all = tt
among_more (x ∷ xs) [] more all = absurd all
among_more (x ∷ xs) (y ∷ said) more (inl both) = inl (both.0, among_more xs said more both.1)
among_more (x ∷ xs) (y ∷ said) more (inr rest) = inr (among_more (x ∷ xs) said more rest)

among_one : (x : Said) (said : List Said) → AreAmong (x ∷ []) (said ++ x ∷ [])
among_one x [] = inl (refl, tt)
among_one x (y ∷ said) = inr (among_one x said)

pub among_snoc : (xs said : List Said) (x : Said) → AreAmong xs said → AreAmong (xs ++ x ∷ []) (said ++ x ∷ [])
among_snoc [] said x all = among_one x said
among_snoc (y ∷ xs) [] x all = absurd all
among_snoc (y ∷ xs) (z ∷ said) x (inl both) = inl (both.0, among_snoc xs said x both.1)
among_snoc (y ∷ xs) (z ∷ said) x (inr rest) = inr (among_snoc (y ∷ xs) said x rest)

-- A stand that tells its replies.

abbrev pub Tells : Stand → Type 0
Tells s = AreAmong (map said_of s.replies) s.said

map_snoc : (rs : List Reply) (r : Reply) → map said_of (rs ++ r ∷ []) ≡ map said_of rs ++ said_of r ∷ []
map_snoc [] r = refl
map_snoc (x ∷ rs) r = ap (λ v. said_of x ∷ v) (map_snoc rs r)

-- a reply and its text are put together
tells_reply : (n : ℕ) (rs : List Reply) (said : List Said) (r : Option Reply) → ((x : Reply) → r ≡ Some x → x.line ≡ n) → AreAmong (map said_of rs) said → AreAmong (map said_of (rs ++ option_to_list r)) (said ++ said_if n (reply_text r))
tells_reply n rs said None line all =
    let P : List Reply → Type 0 = λ v. AreAmong (map said_of v) (said ++ []) in
    subst P (sym (append-nil rs)) (among_more (map said_of rs) said [] all)
tells_reply n rs said (Some r) line all =
    let P : List Said → Type 0 = λ v. AreAmong v (said ++ said_if n (reply_text (Some r))) in
    let Q : ℕ → Type 0 = λ k. AreAmong (map said_of rs ++ said_of r ∷ []) (said ++ said_if k (reply_text (Some r))) in
    subst P (sym (map_snoc rs r)) (subst Q (line r refl) (among_snoc (map said_of rs) said (said_of r) all))

ended_line : (n a : ℕ) (e : Option Ended) (x : Reply) → ended_reply n a e ≡ Some x → x.line ≡ n
ended_line n a None x is = absurd (cc)
ended_line n a (Some e) x is = let k : record { line = n; actor = a; made = e.made; answer = e.answer } ≡ x = cc in ap (λ (r : Reply). r.line) (sym k)

reply_line : (m : Telling) (n a : ℕ) (e : Option Ended) (x : Reply) → reply_by m n a e ≡ Some x → x.line ≡ n
reply_line (telling.Plus line) n a e x is = ended_line n a e x is
reply_line telling.ToEnd n a e x is = ended_line n a e x is
reply_line telling.Dying n a e x is = absurd (cc)
reply_line telling.Ending n a e x is = absurd (cc)

pub tells_turned : (m : Telling) (s : Stand) (a n : ℕ) (t : Turned) → Continues s.site t → Tells s → Tells (after_turned m s a n t)
tells_turned m s a n t continues all =
    tells_reply n s.replies (s.said ++ event_said m n t.heard.event) (reply_by m n a t.heard.ends) (λ x is. reply_line m n a t.heard.ends x is)
    (among_more (map said_of s.replies) s.said (event_said m n t.heard.event) all)

pub tells_said : (s : Stand) (n : ℕ) (text : Saying) → Tells s → Tells (with_said s n text)
tells_said s n text all = among_more (map said_of s.replies) s.said (record { line = n; text = text } ∷ []) all

pub tells_shown : (s : Stand) (n : ℕ) (d : Shown) → Tells s → Tells (after_shown s n d)
tells_shown s n d all = among_more (map said_of s.replies) s.said (map (said_under n) d.texts) all

-- the whole
pub tells_all :
    (lines : List Line) (played finished ended : Stand) (asked : List Asking) → PlaysAll start_stand lines played asked → RunsOutAll telling.ToEnd played all_actors finished → EndsAll finished all_files ended
    → AreAmong (map said_of ended.replies) ended.said
unfolding start_stand
tells_all lines played finished ended asked plays finishes ends =
    kept_ends Tells tells_turned tells_said (λ s a n all. all) finished all_files ended ends
    (kept_finish Tells tells_turned tells_said (λ s a n all. all) telling.ToEnd played all_actors finished finishes
    (kept_lines Tells tells_turned tells_said (λ s a n all. all) tells_shown (record { stand = start_stand; asked = [] }) lines (record { stand = played; asked = asked }) plays tt))
