-- The words that are to come of a call, which its steps make one after the other.
use Rattle.std.proofs.Common.{◌≡◌, ℕ, zero, suc, ◌+◌, ◌<◌, ◌≤◌, Bool, true, false, List, [], ◌∷◌, ◌++◌, Option, Some, None, count_by, length, drop, replicate, refl, ap, sym, ◌∙◌, subst, arith, ⊎_elim, inl, inr, ◌⊎◌}
use Rattle.std.specs.Prelude.{◌==◌, slice_get, sum_by, if◌then◌else◌}
use Rattle.std.specs.List.{list_any}
use Rattle.std.specs.Option.{is_some}
use Rattle.std.proofs.lemmas.Option.{none-some, same_Some}
use Rattle.std.proofs.lemmas.List.{append_assoc, length-append}
use Rattle.std.proofs.lemmas.List.Sums.{sum_by-cons}
use Rattle.std.proofs.lemmas.Bool.Decides.{eqb_tells}
use Rattle.uv_num.specs.declared.errno.Errno.{Errno}
use Rattle.uv_num.specs.declared.ids.Ids.{Ids}
use Rattle.uv_num.specs.declared.ids.Ids.TheVariants.{Empty, One, Two, Three, Four}
use Rattle.uv_num.specs.declared.kind.Kind.{Kind}
use Rattle.uv_num.specs.declared.qp.QpState.{QpState}
use Rattle.uv_num.specs.declared.request.Act as request
use Rattle.uv_num.specs.declared.request.Role.{Role}
use Rattle.uv_num.specs.declared.request.Role.TheVariants.{Creates, Destroys, Acts}
use Rattle.uv_num.specs.Ids.{ids_of, ids_and, ids_behind}
use Rattle.uv_num.specs.Request.{role_of}
use Rattle.uv_machine.specs.declared.entry.Word.{Word}
use Rattle.uv_machine.specs.declared.entry.Word.TheVariants.{Reserve, Look, Make, Commit, Act, Lock, Check, Finish, Abort, Free, Exit}
use Rattle.uv_machine.specs.declared.entry.Answer.{Answer}
use Rattle.uv_machine.specs.declared.entry.Answer.TheVariants as answer
use Rattle.uv_machine.specs.declared.entry.Entry.{Entry}
use Rattle.uv_machine.specs.declared.entry.Entry.TheVariants.{Open, Enter, Step, Unplug, Tear, Kill, Gone, Dissociated, Closed}
use Rattle.uv_machine.specs.declared.call.InFlight.{InFlight}
use Rattle.uv_machine.specs.declared.state.State.{State}
use Rattle.uv_machine.specs.Accounts.{words_ahead, word_steps, is_make, count_of, steps_back, steps_on, makes_ahead, steps_behind, steps_ahead}
use Rattle.uv_machine.specs.Effects.{refusal_in, made_outcome}
use Rattle.uv_machine.specs.Histories.{Allowed, after, kept_in, IsLegalFrom, state_from, state_of}
use Rattle.uv_machine.specs.Plans.{plan_of, plan_for, next_word, look_ask, closing, freeing, with_refusal, with_number, with_look, with_made, with_outcome, with_lock, without_lock, without_number, without_look, moved_on}
use Rattle.uv_machine.specs.Reached.{look_count, HasInCreate, HasInDestroy, HasInAct, HasInPlan, IsPhased, Reached}
use Rattle.uv_machine.specs.Acts.{act_answer}
use Rattle.uv_machine.specs.States.{call_of, start}
use Rattle.uv_machine.specs.Steps.{told, look_told, step_answer}
use Rattle.uv_machine.specs.Words.{is_look, abort_words, free_words, words_back, words_on, words_by, words_to_come, is_refused, word_by, words_in, enters, MakesNextWord, WordsGoOn, WordsAreSteps, RefusedEnds}
use Rattle.uv_machine.proofs.GoingOn.{state_from-snoc}
use Rattle.uv_machine.proofs.Members as members
use Rattle.uv_machine.proofs.Members.{count_by-cons}
use Rattle.uv_machine.proofs.Planned.{InPlan, IsClosing, IsCreateLook, IsActLook, looks_few, next_word-planned, next_word-closing, stands_in_plan, closing_abort, closing_free, closing_exit, drop-behind}
use Rattle.uv_machine.proofs.Phased.{looks_in, plan_has, create_has, act_has, IsPhasedSlot}
use Rattle.uv_machine.proofs.Turns.{Turn, object_made, IsTurn-allowed, may_refuse}
use Rattle.uv_machine.proofs.Turns.Turn.{Refuses, Reserves, Looks, Makes, Commits, Does, Locks, Checks, Finishes, Aborts, Frees, Leaves}
use Rattle.uv_machine.proofs.Ahead.{IsAhead-in_plan, IsNextOf, words_behind, makes_behind_looks}
use Rattle.uv_machine.proofs.OwnCall.{calls_turn, call_of-changed}
use Rattle.uv_machine.proofs.Apart.{call_of-after}
use Rattle.uv_machine.proofs.Changing.{ids_of-ids_and}
use Rattle.uv_machine.proofs.Emptied.{legal_parts}
use Rattle.uv_machine.proofs.Silence.{state_from-append, or_none}
use Rattle.uv_machine.proofs.Reaching.{Reached-after, Reached-state_of}

-- A closing call has no number set aside, but after a refusal.

behind_create : (n p : ℕ) → slice_get (replicate n Look ++ Make ∷ Commit ∷ []) p ≡ None → n + 2 ≤ p
behind_create zero zero e = absurd (none-some Make (sym e))
behind_create zero (suc zero) e = absurd (none-some Commit (sym e))
behind_create zero (suc (suc p)) e = omega arith
behind_create (suc n) zero e = absurd (none-some Look (sym e))
behind_create (suc n) (suc p) e = omega (arith, behind_create n p e)

none_create : (call : InFlight) (n p : ℕ) → HasInCreate call n p → (kind : Kind) → slice_get (plan_of (Creates kind) n) p ≡ None → count_of call.reserved ≡ 0
none_create call n zero h kind e = absurd (none-some Reserve (sym e))
none_create call n (suc p) h kind e = let far = behind_create n p e in (h.ended (omega (arith, far, h.within))).0

none_destroy : (call : InFlight) (p : ℕ) → HasInDestroy call p → count_of call.reserved ≡ 0
none_destroy call zero h = (h.begun refl).numbers_are
none_destroy call (suc zero) h = (h.locked (omega arith) (omega arith)).numbers_are
none_destroy call (suc (suc zero)) h = (h.locked (omega arith) (omega arith)).numbers_are
none_destroy call (suc (suc (suc zero))) h = (h.ended refl).numbers_are
none_destroy call (suc (suc (suc (suc p)))) h = absurd (omega (arith, h.within))

none_act_at : (call : InFlight) (n p : ℕ) → HasInAct call n p → (p ≤ n) ⊎ (n + 1 ≤ p) → count_of call.reserved ≡ 0
none_act_at call n p h (inl low) = (h.looking low).numbers_are
none_act_at call n p h (inr high) = (h.ended (omega (arith, high, h.within))).0

low_or_high : (n p : ℕ) → (p ≤ n) ⊎ (n + 1 ≤ p)
low_or_high n zero = inl (omega arith)
low_or_high zero (suc p) = inr (omega arith)
low_or_high (suc n) (suc p) = ⊎_elim (λ low. inl (omega (arith, low))) (λ high. inr (omega (arith, high))) (low_or_high n p)

none_by : (call : InFlight) (role : Role) (n : ℕ) → HasInPlan call role n → slice_get (plan_of role n) call.place ≡ None → count_of call.reserved ≡ 0
none_by call (Creates kind) n h e = none_create call n call.place h kind e
none_by call (Destroys asked) n h e = none_destroy call call.place h
none_by call (Acts act) n h e = none_act_at call n call.place h (low_or_high n call.place)

no_number : (number : Option ℕ) → count_of number ≡ 0 → number ≡ None
no_number None e = refl
no_number (Some n) e = absurd (omega (arith, e))

pub closing_number : (call : InFlight) → IsPhased call → call.refusal ≡ None → IsClosing call → call.reserved ≡ None
closing_number call p fine ends =
    no_number call.reserved (none_by call (role_of call.request) (looks_in call) (plan_has call p fine) (ends fine))

-- The words of a call that closes.

closing_words_by : (call : InFlight) (r : Option Errno) → call.refusal ≡ r → IsPhased call → IsClosing call → words_by call r ≡ words_back call
closing_words_by call None fine p ends =
    let none : words_ahead call ≡ [] = drop-behind (plan_for call.request) call.place (ends fine) in
    let zero_more : length (ids_of call.looked) + 0 ≡ length (ids_of call.looked) = omega arith in
    ap (λ v. v ++ free_words (length (ids_of call.looked) + count_by is_look v)) none
    ∙ (ap free_words zero_more ∙ ap (λ v. abort_words v ++ free_words (length (ids_of call.looked))) (sym (closing_number call p fine ends)))
closing_words_by call (Some e) fine p ends = refl

pub closing_words : (call : InFlight) → IsPhased call → IsClosing call → words_by call call.refusal ≡ words_back call
closing_words call p ends = closing_words_by call call.refusal refl p ends

-- the words back, by the word that comes first
abort_first : (call : InFlight) (n : ℕ) → call.reserved ≡ Some n → words_back call ≡ Abort ∷ free_words (length (ids_of call.looked))
abort_first call n number = ap (λ v. abort_words v ++ free_words (length (ids_of call.looked))) number

free_all : (call : InFlight) → call.reserved ≡ None → words_back call ≡ free_words (length (ids_of call.looked))
free_all call none = ap (λ v. abort_words v ++ free_words (length (ids_of call.looked))) none

free_one : (looked : Ids) → freeing looked ≡ Free → free_words (length (ids_of looked)) ≡ Free ∷ free_words (length (ids_of (ids_behind looked)))
free_one Empty e = absurd cc
free_one (One a) e = refl
free_one (Two a b) e = refl
free_one (Three a b c) e = refl
free_one (Four a b c d) e = refl

-- The words of a call in its plan.

-- a word of the plan, and the words that it leaves
module _ (call : InFlight) (w : Word) (plan : InPlan call w) where
  abbrev pub rest : List Word
  rest = drop (call.place + 1) (plan_for call.request)

  abbrev pub more : List Word
  more = rest ++ free_words (length (ids_of call.looked) + count_by is_look (w ∷ rest))

  planned_words : words_by call call.refusal ≡ w ∷ more
  planned_words =
      let ahead = IsAhead-in_plan call w plan in
      ap (words_by call) plan.fine
      ∙ ap (λ v. v ++ free_words (length (ids_of call.looked) + count_by is_look v)) ahead.now

  -- what a step leaves that goes on in its plan, and looks at so many
  words_left : (call' : InFlight) → IsNextOf call call' → length (ids_of call'.looked) ≡ length (ids_of call.looked) + members.one_if (is_look w) → words_by call' call'.refusal ≡ more
  words_left call' next looks =
      let ahead = IsAhead-in_plan call w plan in
      let left = words_behind call call' w rest ahead next in
      let counted = count_by-cons is_look w rest in
      let sum : length (ids_of call'.looked) + count_by is_look rest ≡ length (ids_of call.looked) + count_by is_look (w ∷ rest) = omega (arith, looks, counted) in
      ap (words_by call') (next.refusal ∙ plan.fine)
      ∙ (ap (λ v. v ++ free_words (length (ids_of call'.looked) + count_by is_look v)) left ∙ ap (λ n. rest ++ free_words n) sum)

-- the looks of a call that looks once more are fewer than its request's

looks_at_create : (call : InFlight) (n : ℕ) → HasInCreate call n call.place → 1 ≤ call.place → call.place ≤ n → look_count call < n
looks_at_create call n h from low = let k = h.looking from (omega (arith, low)) in omega (arith, k.looks_are, from, low)

looks_at_act : (call : InFlight) (n : ℕ) → HasInAct call n call.place → call.place < n → look_count call < n
looks_at_act call n h low = let k = h.looking (omega (arith, low)) in omega (arith, k.looks_are, low)

few_looks_by : (call : InFlight) (n : ℕ) → IsCreateLook (role_of call.request) (looks_in call) call.place ⊎ IsActLook (role_of call.request) (looks_in call) call.place → IsPhased call → call.refusal ≡ None → look_count call < looks_in call
few_looks_by call n s p fine =
    ⊎_elim
    (λ k. looks_at_create call (looks_in call) (create_has call k.kind p fine k.creates) k.from k.to)
    (λ k. looks_at_act call (looks_in call) (act_has call k.act p fine k.acts) k.to)
    s

one_more_look : (call : InFlight) (o : ℕ) → IsPhased call → InPlan call Look → length (ids_of (ids_and call.looked o)) ≡ length (ids_of call.looked) + 1
one_more_look call o p plan =
    let few = few_looks_by call 0 (stands_in_plan call Look plan) p plan.fine in
    let low : length (ids_of call.looked) < 4 = omega (arith, few, looks_few call.request) in
    ap (λ (v : List ℕ). length v) (ids_of-ids_and call.looked o low) ∙ length-append (ids_of call.looked) (o ∷ [])

-- A step, and the words that it leaves.

abbrev pub LeavesWords : InFlight → Option InFlight → Word → Answer → Type 0
LeavesWords call slot w a = MakesNextWord call slot w a

slot_as : (call : InFlight) (slot slot' : Option InFlight) (w : Word) (a : Answer) → slot ≡ slot' → MakesNextWord call slot' w a → MakesNextWord call slot w a
slot_as call slot slot' w a e h = let P : Option InFlight → Type 0 = λ v. MakesNextWord call v w a in subst P (sym e) h

word_as : (call : InFlight) (slot : Option InFlight) (w v : Word) (a : Answer) → w ≡ v → MakesNextWord call slot v a → MakesNextWord call slot w a
word_as call slot w v a e h = let P : Word → Type 0 = λ x. MakesNextWord call slot x a in subst P (sym e) h

fine_by : (w : Word) (a : Answer) → refusal_in a ≡ None → is_refused w a ≡ false
fine_by Reserve a e = ap is_some e
fine_by Look a e = ap is_some e
fine_by Make a e = ap is_some e
fine_by Commit a e = ap is_some e
fine_by Act a e = ap is_some e
fine_by Lock a e = ap is_some e
fine_by Check a e = ap is_some e
fine_by Finish a e = ap is_some e
fine_by Abort a e = ap is_some e
fine_by Free a e = ap is_some e
fine_by Exit a e = refl

refused_at : (w : Word) (a : Answer) (e : Errno) → may_refuse w ≡ true → refusal_in a ≡ Some e → is_refused w a ≡ true
refused_at Reserve a e may is = ap is_some is
refused_at Look a e may is = ap is_some is
refused_at Make a e may is = ap is_some is
refused_at Commit a e may is = absurd cc
refused_at Act a e may is = ap is_some is
refused_at Lock a e may is = ap is_some is
refused_at Check a e may is = ap is_some is
refused_at Finish a e may is = absurd cc
refused_at Abort a e may is = absurd cc
refused_at Free a e may is = absurd cc
refused_at Exit a e may is = absurd cc

if_false : {X : Type 0} (b : Bool) (x y : X) → b ≡ false → (if b then x else y) ≡ y
if_false true x y e = absurd cc
if_false false x y e = refl

if_true : {X : Type 0} (b : Bool) (x y : X) → b ≡ true → (if b then x else y) ≡ x
if_true true x y e = refl
if_true false x y e = absurd cc

fine_step : (call : InFlight) (slot : Option InFlight) (w : Word) (a : Answer) (rest : List Word) → is_refused w a ≡ false → words_by call call.refusal ≡ w ∷ rest → words_to_come slot ≡ rest → MakesNextWord call slot w a
fine_step call slot w a rest fine now later = record { rest = rest; now = now; later = later ∙ sym (if_false (is_refused w a) (words_back call) rest fine) }

plan_step : (call call' : InFlight) (w : Word) (a : Answer) (plan : InPlan call w) → is_refused w a ≡ false → IsNextOf call call' → length (ids_of call'.looked) ≡ length (ids_of call.looked) + members.one_if (is_look w) → MakesNextWord call (Some call') w a
plan_step call call' w a plan fine next looks =
    fine_step call (Some call') w a (more call w plan) fine (planned_words call w plan) (words_left call w plan call' next looks)

refused_step : (call : InFlight) (w : Word) (a : Answer) (e : Errno) → InPlan call w → is_refused w a ≡ true → MakesNextWord call (Some (with_refusal e call)) w a
refused_step call w a e plan refused = record {
  rest = more call w plan;
  now = planned_words call w plan;
  later = sym (if_true (is_refused w a) (words_back call) (more call w plan) refused);
}

same_looks : (n : ℕ) → n ≡ n + 0
same_looks n = omega arith

slot_phased : (slot : Option InFlight) → ((j : InFlight) → slot ≡ Some j → IsPhased j) → IsPhasedSlot slot
slot_phased None h = tt
slot_phased (Some k) h = h k refl

phased_at : {slot : Option InFlight} {k : InFlight} → slot ≡ Some k → IsPhasedSlot slot → IsPhased k
phased_at {slot} {k} e p = let P : Option InFlight → Type 0 = λ v. IsPhasedSlot v in subst P e p

module _ (m : State) (r : Reached m) (c : ℕ) (call : InFlight) (is : call_of m c ≡ Some call) (w : Word) (o : ℕ) (found : Option QpState) (a : Answer) (word : next_word call ≡ w) (answers : step_answer m call found (kept_in a) w (told m c call found w).refusal ≡ a) where
  phased : IsPhased call
  phased = r.phased c call is

  word_is : (v : Word) → InPlan call v → w ≡ v
  word_is v plan = sym word ∙ next_word-planned call v plan.fine plan.planned

  closing_word_is : (v : Word) → IsClosing call → closing call ≡ v → w ≡ v
  closing_word_is v ends closes = sym word ∙ (next_word-closing call ends ∙ closes)

  -- the answer of a step that was told no refusal
  answer_at : (v : Word) → w ≡ v → (told m c call found v).refusal ≡ None → a ≡ step_answer m call found (kept_in a) v None
  answer_at v e fine =
      sym answers
      ∙ (ap (λ x. step_answer m call found (kept_in a) x (told m c call found x).refusal) e
      ∙ ap (step_answer m call found (kept_in a) v) fine)

  not_refused : (v : Word) (b : Answer) → w ≡ v → a ≡ b → is_refused v b ≡ false → is_refused v a ≡ false
  not_refused v b e same fine = ap (is_refused v) same ∙ fine

  act_fine : (other : Option QpState) (what : request.Act) → refusal_in (act_answer m call other what) ≡ None
  act_fine other (request.TheVariants.Modify to attrs) = refl
  act_fine other request.TheVariants.Query = refl
  act_fine other (request.TheVariants.Bind offset long access) = refl
  act_fine other (request.TheVariants.Unbind offset long access) = refl
  act_fine other request.TheVariants.Async = refl

  words_turn : (m' : State) → IsPhasedSlot (call_of m' c) → (t : Turn m c call a m') → call_of m' c ≡ (calls_turn m c call a m' t).change (Some call) → MakesNextWord call ((calls_turn m c call a m' t).change (Some call)) w a
  words_turn m' p (Refuses t) now =
      word_as call _ w t.word a (word_is t.word t.plan) (refused_step call t.word a t.errno t.plan (refused_at t.word a t.errno t.may t.tells))
  words_turn m' p (Reserves t) now =
      let same = word_is Reserve t.plan in
      let fine : (told m c call found Reserve).refusal ≡ None = rw t.free refl in
      word_as call _ w Reserve a same
      (plan_step call (with_number (Some t.number) call) Reserve a t.plan (not_refused Reserve answer.Ok same (answer_at Reserve same fine) refl) (record { request = refl; refusal = refl; place = refl }) (same_looks _))
  words_turn m' p (Looks t) now =
      let same = word_is Look t.plan in
      let seen = (look_told m call.file (look_ask call)).object in
      word_as call _ w Look a same
      (plan_step call (with_look seen call) Look a t.plan (not_refused Look answer.Ok same (answer_at Look same t.fine) refl) (record { request = refl; refusal = refl; place = refl }) (one_more_look call seen phased t.plan))
  words_turn m' p (Makes t) now =
      let same = word_is Make t.plan in
      let fine : (told m c call found Make).refusal ≡ None = rw (t.creates, t.fresh, t.home) refl in
      let z = object_made m call t.kind t.index in
      word_as call _ w Make a same
      (plan_step call (with_made z.id (made_outcome z) call) Make a t.plan (not_refused Make answer.Ok same (answer_at Make same fine) refl) (record { request = refl; refusal = refl; place = refl }) (same_looks _))
  words_turn m' p (Commits t) now =
      let same = word_is Commit t.plan in
      word_as call _ w Commit a same
      (plan_step call (without_lock call) Commit a t.plan (not_refused Commit answer.Ok same (answer_at Commit same refl) refl) (record { request = refl; refusal = refl; place = refl }) (same_looks _))
  words_turn m' p (Does t) now =
      let same = word_is Act t.plan in
      word_as call _ w Act a same
      (plan_step call (with_outcome a call) Act a t.plan (fine_by Act a (ap refusal_in t.answers ∙ act_fine t.found t.what)) (record { request = refl; refusal = refl; place = refl }) (same_looks _))
  words_turn m' p (Locks t) now =
      let same = word_is Lock t.plan in
      let fine : (told m c call found Lock).refusal ≡ None = rw (t.destroys, t.published) t.fine in
      word_as call _ w Lock a same
      (plan_step call (with_lock t.item.id call) Lock a t.plan (not_refused Lock answer.Ok same (answer_at Lock same fine) refl) (record { request = refl; refusal = refl; place = refl }) (same_looks _))
  words_turn m' p (Checks t) now =
      let same = word_is Check t.plan in
      let fine : (told m c call found Check).refusal ≡ None = rw t.unused refl in
      word_as call _ w Check a same
      (plan_step call (moved_on call) Check a t.plan (not_refused Check answer.Ok same (answer_at Check same fine) refl) (record { request = refl; refusal = refl; place = refl }) (same_looks _))
  words_turn m' p (Finishes t) now =
      let same = word_is Finish t.plan in
      word_as call _ w Finish a same
      (plan_step call (without_lock call) Finish a t.plan (not_refused Finish _ same (answer_at Finish same refl) refl) (record { request = refl; refusal = refl; place = refl }) (same_looks _))
  words_turn m' p (Aborts t) now =
      let same = closing_word_is Abort t.ends t.word in
      let number = closing_abort call t.word in
      let left : IsPhased (without_number call) = phased_at now p in
      word_as call _ w Abort a same
      (fine_step call (Some (without_number call)) Abort a (free_words (length (ids_of call.looked))) (not_refused Abort answer.Ok same (answer_at Abort same refl) refl)
      (closing_words call phased t.ends ∙ abort_first call number.0 number.1)
      (closing_words (without_number call) left t.ends ∙ free_all (without_number call) refl))
  words_turn m' p (Frees t) now =
      let same = closing_word_is Free t.ends t.word in
      let looks = closing_free call t.word in
      let left : IsPhased (without_look call) = phased_at now p in
      word_as call _ w Free a same
      (fine_step call (Some (without_look call)) Free a (free_words (length (ids_of (ids_behind call.looked)))) (not_refused Free answer.Ok same (answer_at Free same refl) refl)
      (closing_words call phased t.ends ∙ (free_all call looks.0 ∙ free_one call.looked looks.1))
      (closing_words (without_look call) left t.ends ∙ free_all (without_look call) looks.0))
  words_turn m' p (Leaves t) now =
      let same = closing_word_is Exit t.ends t.word in
      let none = closing_exit call t.word in
      word_as call _ w Exit a same
      (fine_step call None Exit a [] refl (closing_words call phased t.ends ∙ (free_all call none.0 ∙ ap (λ v. free_words (length (ids_of v))) none.1)) refl)

pub words_step : (m : State) (c : ℕ) (w : Word) (o : ℕ) (found : Option QpState) (a : Answer) (call : InFlight) → Reached m → call_of m c ≡ Some call → Allowed m (Step c w o found a) → MakesNextWord call (call_of (after m (Step c w o found a)) c) w a
words_step m c w o found a call r is allowed =
    let m' = after m (Step c w o found a) in
    let t = IsTurn-allowed m c w o found a allowed in
    let k = calls_turn m c t.call a m' t.turn in
    let now : call_of m' c ≡ k.change (Some t.call) = call_of-changed m m' c k.change t.call k.calls t.is in
    let mine : t.call ≡ call = same_Some t.call call (sym t.is ∙ is) in
    let P : InFlight → Type 0 = λ v. MakesNextWord v (call_of m' c) w a in
    subst P mine
    (slot_as t.call (call_of m' c) _ w a now
    (words_turn m r c t.call t.is w o found a t.word t.answer m' (slot_phased (call_of m' c) (λ j e. (Reached-after m (Step c w o found a) allowed r).phased c j e)) t.turn now))

pub words_go_on : WordsGoOn
words_go_on h c w o found a call legal is allowed =
    let P : State → Type 0 = λ s. MakesNextWord call (call_of s c) w a in
    subst P (sym (state_from-snoc start h (Step c w o found a))) (words_step (state_of h) c w o found a call (Reached-state_of h legal) is allowed)

-- As many words as steps.

one_step : (w : Word) → word_steps w ≡ 1 + members.one_if (is_look w)
one_step Reserve = refl
one_step Look = refl
one_step Make = refl
one_step Commit = refl
one_step Act = refl
one_step Lock = refl
one_step Check = refl
one_step Finish = refl
one_step Abort = refl
one_step Free = refl
one_step Exit = refl

steps_of_words : (ws : List Word) → sum_by word_steps ws ≡ length ws + count_by is_look ws
steps_of_words [] = refl
steps_of_words (w ∷ ws) = omega (arith, sum_by-cons word_steps w ws, count_by-cons is_look w ws, one_step w, steps_of_words ws)

length-free_words : (n : ℕ) → length (free_words n) ≡ n + 1
length-free_words zero = refl
length-free_words (suc n) = omega (arith, length-free_words n)

length-abort_words : (number : Option ℕ) → length (abort_words number) ≡ count_of number
length-abort_words None = refl
length-abort_words (Some n) = refl

back_length : (call : InFlight) → steps_back call ≡ length (words_back call)
back_length call =
    omega (arith, length-append (abort_words call.reserved) (free_words (length (ids_of call.looked))), length-abort_words call.reserved, length-free_words (length (ids_of call.looked)))

-- a Make is ahead where a number is set aside

make_ahead : (n p : ℕ) → p ≤ n → list_any is_make (drop p (replicate n Look ++ Make ∷ Commit ∷ [])) ≡ true
make_ahead n zero low = makes_behind_looks n
make_ahead zero (suc p) low = absurd (omega (arith, low))
make_ahead (suc n) (suc p) low = make_ahead n p (omega (arith, low))

none_made : (call : InFlight) (n p : ℕ) → HasInCreate call n p → (kind : Kind) → list_any is_make (drop p (plan_of (Creates kind) n)) ≡ false → count_of call.reserved ≡ 0
none_made call n zero h kind none = absurd (let yes = makes_behind_looks n in cc)
none_made call n (suc p) h kind none =
    ⊎_elim
    (λ low. absurd (let yes = make_ahead n p low in cc))
    (λ high.
    ⊎_elim
    (λ made. (h.made (omega (arith, high, made))).numbers_are)
    (λ far. (h.ended (omega (arith, far, h.within))).0)
    (low_or_high (n + 1) p))
    (low_or_high n p)

none_ahead : (call : InFlight) (role : Role) (n : ℕ) → HasInPlan call role n → list_any is_make (drop call.place (plan_of role n)) ≡ false → count_of call.reserved ≡ 0
none_ahead call (Creates kind) n h none = none_made call n call.place h kind none
none_ahead call (Destroys asked) n h none = none_destroy call call.place h
none_ahead call (Acts act) n h none = none_act_at call n call.place h (low_or_high n call.place)

on_length : (call : InFlight) (makes : Bool) → IsPhased call → call.refusal ≡ None → makes_ahead call ≡ makes → steps_on makes call ≡ length (words_on call)
on_length call true p fine makes =
    omega (arith, length-append (words_ahead call) (free_words (length (ids_of call.looked) + count_by is_look (words_ahead call))), length-free_words (length (ids_of call.looked) + count_by is_look (words_ahead call)), steps_of_words (words_ahead call))
on_length call false p fine makes =
    let number = no_number call.reserved (none_ahead call (role_of call.request) (looks_in call) (plan_has call p fine) makes) in
    let aborts : count_of call.reserved ≡ 0 = ap count_of number in
    omega (arith, length-append (words_ahead call) (free_words (length (ids_of call.looked) + count_by is_look (words_ahead call))), length-free_words (length (ids_of call.looked) + count_by is_look (words_ahead call)), steps_of_words (words_ahead call), aborts)

call_length : (call : InFlight) (r : Option Errno) → call.refusal ≡ r → IsPhased call → steps_behind call r ≡ length (words_by call r)
call_length call None fine p = on_length call (makes_ahead call) p fine refl
call_length call (Some e) fine p = back_length call

slot_length : (slot : Option InFlight) → IsPhasedSlot slot → steps_ahead slot ≡ length (words_to_come slot)
slot_length None p = refl
slot_length (Some call) p = call_length call call.refusal refl p

pub words_are_steps : WordsAreSteps
words_are_steps h c legal = slot_length (call_of (state_of h) c) (slot_phased (call_of (state_of h) c) (λ k e. (Reached-state_of h legal).phased c k e))

-- The end of a call that was refused.

-- an actor that has no call, or one that was refused
abbrev pub IsEnding : Option InFlight → Type 0
IsEnding None = Unit {0}
IsEnding (Some call) = (e : Errno) × (call.refusal ≡ Some e)

ending_as : (slot slot' : Option InFlight) → slot ≡ slot' → IsEnding slot' → IsEnding slot
ending_as slot slot' e h = let P : Option InFlight → Type 0 = λ v. IsEnding v in subst P (sym e) h

abbrev pub slot_back : InFlight → Option InFlight → Word → Type 0
slot_back call slot w = (words_by call call.refusal ≡ w ∷ words_to_come slot) × IsEnding slot

fine_never : (call : InFlight) (e : Errno) → call.refusal ≡ Some e → call.refusal ≡ None → ⊥
fine_never call e refused fine = none-some e (sym fine ∙ refused)

back_by : (call : InFlight) (e : Errno) → call.refusal ≡ Some e → words_by call call.refusal ≡ words_back call
back_by call e refused = ap (words_by call) refused

back_word : (call : InFlight) (slot : Option InFlight) (w v : Word) → w ≡ v → slot_back call slot v → slot_back call slot w
back_word call slot w v e h = let P : Word → Type 0 = λ x. slot_back call slot x in subst P (sym e) h

module _ (m : State) (c : ℕ) (call : InFlight) (w : Word) (a : Answer) (word : next_word call ≡ w) (e : Errno) (refused : call.refusal ≡ Some e) where
  back_closing : (v : Word) → IsClosing call → closing call ≡ v → w ≡ v
  back_closing v ends closes = sym word ∙ (next_word-closing call ends ∙ closes)

  back_turn : (m' : State) (t : Turn m c call a m') → slot_back call ((calls_turn m c call a m' t).change (Some call)) w
  back_turn m' (Refuses t) = absurd (fine_never call e refused t.plan.fine)
  back_turn m' (Reserves t) = absurd (fine_never call e refused t.plan.fine)
  back_turn m' (Looks t) = absurd (fine_never call e refused t.plan.fine)
  back_turn m' (Makes t) = absurd (fine_never call e refused t.plan.fine)
  back_turn m' (Commits t) = absurd (fine_never call e refused t.plan.fine)
  back_turn m' (Does t) = absurd (fine_never call e refused t.plan.fine)
  back_turn m' (Locks t) = absurd (fine_never call e refused t.plan.fine)
  back_turn m' (Checks t) = absurd (fine_never call e refused t.plan.fine)
  back_turn m' (Finishes t) = absurd (fine_never call e refused t.plan.fine)
  back_turn m' (Aborts t) =
      let number = closing_abort call t.word in
      back_word call (Some (without_number call)) w Abort (back_closing Abort t.ends t.word)
      (back_by call e refused ∙ (abort_first call number.0 number.1 ∙ ap (λ v. Abort ∷ v) (sym (back_by (without_number call) e refused))), (e, refused))
  back_turn m' (Frees t) =
      let looks = closing_free call t.word in
      back_word call (Some (without_look call)) w Free (back_closing Free t.ends t.word)
      (back_by call e refused ∙ (free_all call looks.0 ∙ (free_one call.looked looks.1 ∙ ap (λ v. Free ∷ v) (sym (back_by (without_look call) e refused ∙ free_all (without_look call) looks.0)))), (e, refused))
  back_turn m' (Leaves t) =
      let none = closing_exit call t.word in
      back_word call None w Exit (back_closing Exit t.ends t.word)
      (back_by call e refused ∙ (free_all call none.0 ∙ ap (λ v. free_words (length (ids_of v))) none.1), tt)

back_step : (m : State) (c : ℕ) (w : Word) (o : ℕ) (found : Option QpState) (a : Answer) → Allowed m (Step c w o found a) → IsEnding (call_of m c) → (words_to_come (call_of m c) ≡ w ∷ words_to_come (call_of (after m (Step c w o found a)) c)) × IsEnding (call_of (after m (Step c w o found a)) c)
back_step m c w o found a allowed ending =
    let m' = after m (Step c w o found a) in
    let t = IsTurn-allowed m c w o found a allowed in
    let k = calls_turn m c t.call a m' t.turn in
    let now : call_of m' c ≡ k.change (Some t.call) = call_of-changed m m' c k.change t.call k.calls t.is in
    let was : IsEnding (Some t.call) = ending_as (Some t.call) (call_of m c) (sym t.is) ending in
    let back = back_turn m c t.call w a t.word was.0 was.1 m' t.turn in
    (ap words_to_come t.is ∙ (back.0 ∙ ap (λ v. w ∷ words_to_come v) (sym now)), ending_as (call_of m' c) (k.change (Some t.call)) now back.1)

-- the words of an entry, and of those after it
back_entry : (m : State) (e : Entry) (c : ℕ) → Allowed m e → enters c e ≡ false → IsEnding (call_of m c) → (words_to_come (call_of m c) ≡ word_by c e ++ words_to_come (call_of (after m e) c)) × IsEnding (call_of (after m e) c)
back_entry m (Open b f d a) c allowed none ending = let same = call_of-after m (Open b f d a) c refl in (ap words_to_come (sym same), ending_as (call_of (after m (Open b f d a)) c) (call_of m c) same ending)
back_entry m (Enter b f request a) c allowed none ending = let same = call_of-after m (Enter b f request a) c none in (ap words_to_come (sym same), ending_as (call_of (after m (Enter b f request a)) c) (call_of m c) same ending)
back_entry m (Step b w o found a) c allowed none ending =
    ⊎_elim
    (λ same. (
    let P : ℕ → Type 0 = λ i. IsEnding (call_of m i) in
    let Q : ℕ → Type 0 = λ i. (words_to_come (call_of m i) ≡ w ∷ words_to_come (call_of (after m (Step b w o found a)) i)) × IsEnding (call_of (after m (Step b w o found a)) i) in
    let back = subst Q same.1 (back_step m b w o found a allowed (subst P (sym same.1) ending)) in
    (back.0 ∙ ap (λ v. v ++ words_to_come (call_of (after m (Step b w o found a)) c)) (sym (if_true (b == c) (w ∷ []) [] same.0)), back.1)))
    (λ other. (
    let kept = call_of-after m (Step b w o found a) c other.0 in
    (ap words_to_come (sym kept) ∙ ap (λ v. v ++ words_to_come (call_of (after m (Step b w o found a)) c)) (sym (if_false (b == c) (w ∷ []) [] other.0)), ending_as (call_of (after m (Step b w o found a)) c) (call_of m c) kept ending)))
    (eqb_tells b c)
back_entry m (Unplug d) c allowed none ending = (refl, ending)
back_entry m (Tear f by) c allowed none ending = (refl, ending)
back_entry m (Kill o) c allowed none ending = (refl, ending)
back_entry m (Gone o kept) c allowed none ending = let same = call_of-after m (Gone o kept) c refl in (ap words_to_come (sym same), ending_as (call_of (after m (Gone o kept)) c) (call_of m c) same ending)
back_entry m (Dissociated f) c allowed none ending = (refl, ending)
back_entry m (Closed f) c allowed none ending = (refl, ending)

back_from : (m : State) (es : List Entry) (c : ℕ) → IsLegalFrom m es → list_any (enters c) es ≡ false → IsEnding (call_of m c) → words_in c es ++ words_to_come (call_of (state_from m es) c) ≡ words_to_come (call_of m c)
back_from m [] c legal none ending = refl
back_from m (e ∷ es) c legal none ending =
    let parts = or_none (enters c e) (list_any (enters c) es) none in
    let here = back_entry m e c legal.0 parts.0 ending in
    append_assoc (word_by c e) (words_in c es) (words_to_come (call_of (state_from (after m e) es) c))
    ∙ (ap (λ v. word_by c e ++ v) (back_from (after m e) es c legal.1 parts.1 here.1) ∙ sym here.0)

pub refused_ends : RefusedEnds
refused_ends h es c call e legal is refused none =
    let parts = legal_parts start h es legal in
    ap (λ s. words_in c es ++ words_to_come (call_of s c)) (state_from-append start h es)
    ∙ (back_from (state_of h) es c parts.1 none (ending_as (call_of (state_of h) c) (Some call) is (e, refused))
    ∙ (ap words_to_come is ∙ back_by call e refused))
