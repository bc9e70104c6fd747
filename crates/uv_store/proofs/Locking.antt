-- An object locked, in what is kept beside the state.
use Rattle.std.proofs.Common.{◌≡◌, ◌≢◌, ℕ, pos, negsuc, zero, suc, Bool, true, false, List, Option, Some, None, refl, ap, sym, ◌∙◌, subst, arith}
use Rattle.std.specs.Prelude.{slice_get, not, nat_lt, option_map}
use Rattle.std.specs.List.{list_any}
use Rattle.std.proofs.lemmas.Bool.{eq-eqb, ne_eqb}
use Rattle.std.proofs.lemmas.List.Sums.{count_by-le-length}
use Rattle.std.proofs.lemmas.Option.{none-some, same_Some}
use Rattle.uv_num.specs.declared.request.Ask.{Ask}
use Rattle.uv_num.specs.declared.request.Role.{Role}
use Rattle.uv_num.specs.Ids.{ids_of, is_number}
use Rattle.uv_num.specs.Place.{at_place}
use Rattle.uv_num.specs.Request.{role_of}
use Rattle.uv_num.proofs.PlaceLaws.{slice_get-at_place_same}
use Rattle.uv_machine.specs.declared.entry.CallStep.{CallStep}
use Rattle.uv_machine.specs.declared.entry.Word.{Word}
use Rattle.uv_machine.specs.declared.entry.Word.TheVariants.{Lock}
use Rattle.uv_machine.specs.declared.call.InFlight.{InFlight}
use Rattle.uv_machine.specs.declared.object.Object.{Object}
use Rattle.uv_machine.specs.declared.state.State.{State}
use Rattle.uv_machine.specs.Accounts.{count_of}
use Rattle.uv_machine.specs.Objects.{is_kind}
use Rattle.uv_machine.specs.Plans.{is_the_number, reserves, locks, with_lock}
use Rattle.uv_machine.specs.States.{published, has_others}
use Rattle.uv_machine.specs.Steps.{told, step_answer, lock_found, lock_told}
use Rattle.uv_machine.specs.Effects.{refusal_in, with_call, unless_refused}
use Rattle.uv_machine.specs.Histories.{after, kept_in}
use Rattle.uv_machine.specs.Reached.{Has}
use Rattle.uv_machine.proofs.Calling.{any_at}
use Rattle.uv_machine.proofs.OwnCall.{call_stands}
use Rattle.uv_machine.proofs.Phased.{destroy_has}
use Rattle.uv_machine.proofs.Planned.{InPlan, in_plan, stands_in_plan}
use Rattle.uv_machine.proofs.Turning.{lock_parts}
use Rattle.uv_machine.proofs.Turns.{IsTurn, IsTurn-allowed}
use Rattle.uv_handles.specs.declared.slot.Slot.{Slot}
use Rattle.uv_store.specs.declared.mark.Mark.{Mark}
use Rattle.uv_store.specs.declared.mark.MarkChange.TheVariants.{Locks}
use Rattle.uv_store.specs.Going.{Goes, entry_by}
use Rattle.uv_store.specs.Marks.{looks_by, reads_on, word_for, word_on, word_locked, is_beside, users_on, mark_on, marks_by, marks_at_one}
use Rattle.uv_store.specs.Stored.{IsLegalState, IsStored}
use Rattle.uv_store.proofs.Beside.{lt_true}
use Rattle.uv_store.proofs.Legal.{goes_on, reached}
use Rattle.uv_store.proofs.Reading.{others_tell}
use Rattle.uv_store.proofs.Still.{any_alike, sum_alike}
use Rattle.uv_store.proofs.Stored.{IsTurned, stored_turned, went, fine_told}

pub none_own : (o : ℕ) (own : Option ℕ) → count_of own ≡ 0 → is_the_number o own ≡ false
none_own o None e = refl
none_own o (Some n) e = cc

nothing_less : (n : ℕ) → nat_lt 0 n ≡ false → n ≡ 0
nothing_less zero e = refl
nothing_less (suc n) e = let yes = lt_true 0 (suc n) (omega arith) in cc

lock_free : (m : State) (c : ℕ) (asked : Ask) (o : ℕ) (p : Option Object) → (lock_found m c asked p).refusal ≡ None → (lock_found m c asked p).object ≡ o → has_others m c o ≡ false
lock_free m c asked o None fine object = absurd (none-some _ (sym fine))
lock_free m c asked o (Some x) fine object = ap (has_others m c) (sym object) ∙ lock_parts (is_kind x.kind asked.kind) (has_others m c x.id) fine

module _ (m : State) (l : IsLegalState m) (c : ℕ) (d : CallStep) (goes : Goes m c d Lock) where
  turn : IsTurn m c d.word d.object d.found d.answer (after m (entry_by c d))
  turn = IsTurn-allowed m c d.word d.object d.found d.answer goes.allowed

  abbrev taker : InFlight
  taker = turn.call

  new : after m (entry_by c d) ≡ with_call m c (with_lock d.object)
  new = went m c d Lock taker turn.is goes.word ∙ ap (λ r. unless_refused m c r (with_call m c (with_lock d.object))) goes.fine

  plan : InPlan taker Lock
  plan = in_plan taker Lock (turn.word ∙ goes.word) refl

  fine : (lock_told m c taker.file (role_of taker.request)).refusal ≡ None
  fine =
      let P : Word → Type 0 = λ w. refusal_in (step_answer m taker d.found (kept_in d.answer) w (told m c taker d.found w).refusal) ≡ None in
      fine_told m taker d.found (kept_in d.answer) Lock (told m c taker d.found Lock).refusal (subst P goes.word (ap refusal_in turn.answer ∙ goes.fine))

  object : (lock_told m c taker.file (role_of taker.request)).object ≡ d.object
  object = let P : Word → Type 0 = λ w. (told m c taker d.found w).object ≡ d.object in subst P goes.word turn.object

  others : has_others m c d.object ≡ false
  others =
      let s = stands_in_plan taker Lock plan in
      let P : Role → Type 0 = λ r. (lock_told m c taker.file r).refusal ≡ None in
      let Q : Role → Type 0 = λ r. (lock_told m c taker.file r).object ≡ d.object in
      lock_free m c s.asked d.object (published m taker.file s.asked.handle) (subst P s.destroys fine) (subst Q s.destroys object)

  has : Has taker 0 0 0
  has =
      let s = stands_in_plan taker Lock plan in
      (destroy_has taker s.asked ((reached m l).phased c taker turn.is) plan.fine s.destroys).begun s.at

  looks_none : (i : ℕ) → looks_by i (Some taker) ≡ 0
  looks_none i = omega (arith, count_by-le-length (is_number i) (ids_of taker.looked), has.looks_are)

  none_beside : (b : Bool) → list_any (locks d.object) m.calls ≡ b → is_beside (word_for b (reads_on m.calls d.object)) (Some taker) d.object ≡ false → word_on m.calls d.object ≡ pos 0
  none_beside true is e = absurd (let yes : not (is_the_number d.object taker.locked) ≡ true = ap not (none_own d.object taker.locked has.locks_are) in cc)
  none_beside false is e =
      let zero_reads = nothing_less (reads_on m.calls d.object) (ap (λ n. nat_lt n (reads_on m.calls d.object)) (sym (looks_none d.object)) ∙ e) in
      ap (λ b. word_for b (reads_on m.calls d.object)) is ∙ ap (λ n. pos n) zero_reads

  free_word : word_on m.calls d.object ≡ pos 0
  free_word =
      none_beside (list_any (locks d.object) m.calls) refl
      (ap (λ s. is_beside (word_on m.calls d.object) s d.object) (sym turn.is) ∙ (others_tell m l c d.object ∙ others))

  at : slice_get m.calls c ≡ Some (Some taker)
  at = call_stands m c taker turn.is

  abbrev g : Option InFlight → Option InFlight
  g = option_map (with_lock d.object)

  taken : list_any (locks d.object) (at_place m.calls c g) ≡ true
  taken = any_at (locks d.object) (at_place m.calls c g) c (Some (with_lock d.object taker)) (slice_get-at_place_same m.calls c g ∙ ap (option_map g) at) (eq-eqb d.object d.object refl)

  reads_same : (i : ℕ) → reads_on (at_place m.calls c g) i ≡ reads_on m.calls i
  reads_same i = sum_alike (looks_by i) g m.calls c (λ x e. elim x as (λ v. looks_by i (g v) ≡ looks_by i v) [ None ↦ refl | Some k ↦ refl ])

  locks_same : (i : ℕ) → i ≢ d.object → list_any (locks i) (at_place m.calls c g) ≡ list_any (locks i) m.calls
  locks_same i apart = any_alike (locks i) g m.calls c (λ x e.
      let is : Some taker ≡ x = same_Some _ _ (sym at ∙ e) in
      let P : Option InFlight → Type 0 = λ v. locks i (g v) ≡ locks i v in
      subst P is (ne_eqb d.object i (λ same. apart (sym same)) ∙ sym (none_own i taker.locked has.locks_are)))

  locked : IsTurned m (after m (entry_by c d)) d.object Locks
  locked =
      let P : State → Type 0 = λ v. IsTurned m v d.object Locks in
      let here : word_on (at_place m.calls c g) d.object ≡ negsuc 0 = ap (λ b. word_for b (reads_on (at_place m.calls c g) d.object)) taken in
      subst P (sym new) record {
        objects = refl;
        numbers = λ f n. any_alike (reserves f n) g m.calls c (λ x e. elim x as (λ v. reserves f n (g v) ≡ reserves f n v) [ None ↦ refl | Some k ↦ refl ]);
        own = ap (λ w. record { word = w; users = users_on m.objects d.object }) (ap word_locked free_word ∙ sym here);
        others = λ i apart. ap (λ b. word_for b (reads_on (at_place m.calls c g) i)) (locks_same i apart) ∙ ap (λ n. word_for (list_any (locks i) m.calls) n) (reads_same i);
      }

  pub stored_lock : (marks marks' : List Mark) (tables : List (List Slot)) (doomed standing : List ℕ) → IsStored m marks tables doomed standing → marks' ≡ marks_by (marks_at_one Locks d.object (mark_on m)) m.objects → IsStored (after m (entry_by c d)) marks' tables doomed standing
  stored_lock marks marks' tables doomed standing s is =
      stored_turned m (after m (entry_by c d)) d.object Locks locked marks marks' tables doomed standing s is (goes_on m (entry_by c d) l goes.allowed)
