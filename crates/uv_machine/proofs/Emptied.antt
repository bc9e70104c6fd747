-- A whole teardown: as many kills and releases as objects stood; and one that had to wait for calls.
use Rattle.std.proofs.Common.{◌≡◌, ◌≢◌, ℕ, suc, Bool, true, false, List, [], ◌∷◌, ◌++◌, Option, Some, None, refl, ap, sym, ◌∙◌, arith, ⊎_elim}
use Rattle.std.specs.Prelude.{not, ◌&&◌, ◌||◌, slice_get}
use Rattle.std.specs.List.{list_any}
use Rattle.std.specs.Cmp.Derive.{both_true}
use Rattle.std.proofs.lemmas.Option.{none-some, same_Some}
use Rattle.std.proofs.lemmas.Bool.{and_parts, eqb-true, eq-eqb}
use Rattle.std.proofs.lemmas.Bool.Decides.{eqb_tells}
use Rattle.uv_num.specs.declared.qp.QpState.{QpState}
use Rattle.uv_machine.specs.declared.entry.Entry.{Entry}
use Rattle.uv_machine.specs.declared.entry.Entry.TheVariants.{Open, Enter, Step, Unplug, Tear, Kill, Gone, Dissociated, Closed}
use Rattle.uv_machine.specs.declared.entry.Word.{Word}
use Rattle.uv_machine.specs.declared.entry.Word.TheVariants.{Commit, Finish, Exit}
use Rattle.uv_machine.specs.declared.entry.Answer.{Answer}
use Rattle.uv_machine.specs.declared.object.Object.{Object}
use Rattle.uv_machine.specs.declared.object.Phase.{Phase}
use Rattle.uv_machine.specs.declared.object.Phase.TheVariants as phase
use Rattle.uv_machine.specs.declared.call.InFlight.{InFlight}
use Rattle.uv_machine.specs.declared.state.State.{State}
use Rattle.uv_machine.specs.Accounts.{one_if}
use Rattle.uv_machine.specs.Objects.{in_file, is_made, is_live, is_doomed, is_husk, is_live_in, is_doomed_in, is_standing_in}
use Rattle.uv_machine.specs.Plans.{next_word, is_call_on}
use Rattle.uv_machine.specs.States.{the_call, call_of, phase_of, is_quiet, is_tearing, has_doomed, has_standing, start}
use Rattle.uv_machine.specs.Effects.{after_step}
use Rattle.uv_machine.specs.Outside.{may_sweep}
use Rattle.uv_machine.specs.Histories.{Allowed, after, IsLegalFrom, IsLegal, state_from, state_of}
use Rattle.uv_machine.specs.Laws.{standing_count, is_of, moves}
use Rattle.uv_machine.specs.Reached.{IsIn, IsHeldFor, Reached}
use Rattle.uv_machine.specs.Removals.{live_count, is_of_file, goes_from, ends_of, kills_through, gone_through, SweepTakesOne, TeardownCounts, SweepWaits}
use Rattle.uv_machine.proofs.GoingOn.{state_from-snoc, IsLegalFrom-snoc}
use Rattle.uv_machine.proofs.Members.{fails_any, list_any-none}
use Rattle.uv_machine.proofs.Sums.{count_by-none}
use Rattle.uv_machine.proofs.Turns.{IsTurn-allowed}
use Rattle.uv_machine.proofs.OwnCall.{calls_turn, call_of-changed}
use Rattle.uv_machine.proofs.Apart.{call_of-after}
use Rattle.uv_machine.proofs.Clients.{stays_or_leaves}
use Rattle.uv_machine.proofs.FilesApart.{phase_of-apart}
use Rattle.uv_machine.proofs.Calling.{quiet_none, false_unless, call_of-other}
use Rattle.uv_machine.proofs.Reaching.{Reached-after, Reached-state_of}
use Rattle.uv_machine.proofs.Sweeping.{IsSwept-tear, object_with-killed, may_kill-swept, may_go-killed}
use Rattle.uv_machine.proofs.Emptying.{count_agrees, swept_after, standing_after, live_after, closed_empty, dissociated_empty, releases_count}

and_left : (a b : Bool) → (a && b) ≡ true → a ≡ true
and_left a b h = (and_parts a b h).0

and_right : (a b : Bool) → (a && b) ≡ true → b ≡ true
and_right a b h = (and_parts a b h).1

or_none : (a b : Bool) → (a || b) ≡ false → (a ≡ false) × (b ≡ false)
or_none true b h = absurd cc
or_none false b h = (refl, h)

-- A history that is legal, in parts.

pub legal_parts : (m : State) (xs ys : List Entry) → IsLegalFrom m (xs ++ ys) → IsLegalFrom m xs × IsLegalFrom (state_from m xs) ys
legal_parts m [] ys legal = (tt, legal)
legal_parts m (x ∷ xs) ys legal = let rest = legal_parts (after m x) xs ys legal.1 in ((legal.0, rest.0), rest.1)

no_husk : (p : Phase) → is_live p ≡ true → is_husk p ≡ false
no_husk phase.Made h = absurd cc
no_husk phase.Live h = refl
no_husk phase.Doomed h = absurd cc
no_husk phase.Husk h = absurd cc

live_no_husk : (x : Object) → is_live x.phase ≡ true → is_husk x.phase ≡ false
live_no_husk x live = no_husk x.phase live

same_by : (b : Bool) (p : Phase) → (b ≡ true → is_made p ≡ true → ⊥) → (b ≡ true → is_doomed p ≡ true → ⊥) → (b && is_live p) ≡ (b && not (is_husk p))
same_by true phase.Made made doomed = absurd (made refl refl)
same_by true phase.Live made doomed = refl
same_by true phase.Doomed made doomed = absurd (doomed refl refl)
same_by true phase.Husk made doomed = refl
same_by false p made doomed = refl

-- From a file whose calls have ended to the end of its teardown.

live_stands : (f : ℕ) (x : Object) → is_standing_in f x ≡ false → is_live_in f x ≡ false
live_stands f x none = false_unless (is_live_in f x) (λ live. (let yes : is_standing_in f x ≡ true = both_true (and_left (in_file f x) (is_live x.phase) live) (ap not (live_no_husk x (and_right (in_file f x) (is_live x.phase) live))) in cc))

none_left : (m : State) (f : ℕ) → has_standing m f ≡ false → (live_count m f ≡ 0) × (standing_count m f ≡ 0)
none_left m f none = (
  count_by-none (is_live_in f) m.objects (list_any-none (is_live_in f) m.objects (λ x k. live_stands f x (fails_any (is_standing_in f) x m.objects none k))),
  count_by-none (is_standing_in f) m.objects none,
)

ended : (m : State) (f : ℕ) (last : Entry) → Allowed m last → ends_of f last ≡ true → has_standing m f ≡ false
ended m f (Open c k d a) allowed ends = absurd cc
ended m f (Enter c k request a) allowed ends = absurd cc
ended m f (Step c w o found a) allowed ends = absurd cc
ended m f (Unplug d) allowed ends = absurd cc
ended m f (Tear k by) allowed ends = absurd cc
ended m f (Kill o) allowed ends = absurd cc
ended m f (Gone o kept) allowed ends = absurd cc
ended m f (Dissociated k) allowed ends = ap (has_standing m) (sym (eqb-true k f ends)) ∙ dissociated_empty m k allowed
ended m f (Closed k) allowed ends = ap (has_standing m) (sym (eqb-true k f ends)) ∙ closed_empty m k allowed

through : (m : State) (f : ℕ) (es : List Entry) (last : Entry) → Reached m → may_sweep m f ≡ true → IsLegalFrom m (es ++ last ∷ []) → list_any (ends_of f) es ≡ false → ends_of f last ≡ true
    → (kills_through m f es ≡ live_count m f) × (gone_through m f es ≡ standing_count m f)
through m f [] last r swept legal goes ends = let none = none_left m f (ended m f last legal.0 ends) in (sym none.0, sym none.1)
through m f (e ∷ es) last r swept legal goes ends =
    let parts = or_none (ends_of f e) (list_any (ends_of f) es) goes in
    let rest = through (after m e) f es last (Reached-after m e legal.0 r) (swept_after m e f legal.0 swept parts.0) legal.1 parts.1 ends in
    (omega (arith, rest.0, live_after m r f swept e legal.0), omega (arith, rest.1, standing_after m r f swept e legal.0))

-- where no call is on a file and none of its objects is doomed, what stands is live
module _ (m : State) (f : ℕ) (r : Reached m) (quiet : is_quiet m f ≡ true) (clear : has_doomed m f ≡ false) where
  held_by_none : (w : Word) (x : Object) → x.file ≡ f → IsHeldFor m w x → ⊥
  held_by_none w x of_it h = quiet_none m h.actor f h.call quiet h.is (h.same ∙ of_it)

  live_as_standing : (x : Object) → IsIn x m.objects → is_live_in f x ≡ is_standing_in f x
  live_as_standing x k =
      same_by (in_file f x) x.phase
      (λ here made. held_by_none Commit x (eqb-true x.file f here) (r.making x k made))
      (λ here doomed. (let yes : is_doomed_in f x ≡ true = both_true here doomed in let no : is_doomed_in f x ≡ false = fails_any (is_doomed_in f) x m.objects clear k in cc))

  all_live : live_count m f ≡ standing_count m f
  all_live = count_agrees (is_live_in f) (is_standing_in f) m.objects live_as_standing

pub teardown_counts : TeardownCounts
teardown_counts h f by es last t =
    let m = state_of h in
    let parts = legal_parts start h (Tear f by ∷ (es ++ last ∷ [])) t.legal in
    let torn = after m (Tear f by) in
    let s = IsSwept-tear h f by parts.0 t.quiet parts.1.0 in
    let goes_on : state_of (h ++ Tear f by ∷ []) ≡ torn = state_from-snoc start h (Tear f by) in
    let quiet : is_quiet torn f ≡ true = sym (ap (λ v. is_quiet v f) goes_on) ∙ s.quiet in
    let clear : has_doomed torn f ≡ false = sym (ap (λ v. has_doomed v f) goes_on) ∙ s.clear in
    let tearing : is_tearing (phase_of torn f) ≡ true = ap is_tearing (sym (ap (λ v. phase_of v f) goes_on) ∙ s.tearing) in
    let r : Reached torn = Reached-after m (Tear f by) parts.1.0 (Reached-state_of h parts.0) in
    let all = through torn f es last r (both_true tearing quiet) parts.1.1 t.goes_on t.ends in (
      ap (λ v. kills_through v f es) goes_on ∙ all.0 ∙ all_live torn f r quiet clear,
      ap (λ v. gone_through v f es) goes_on ∙ all.1,
    )

-- One round.

pub sweep_takes_one : SweepTakesOne
sweep_takes_one h f by kept x s free =
    let h1 = h ++ Kill x.id ∷ [] in
    let may = may_kill-swept h f by x s free in
    let go = may_go-killed h f by x s free in
    let legal : IsLegal (h ++ Kill x.id ∷ []) = IsLegalFrom-snoc start h (Kill x.id) s.legal may in
    let now : may_sweep (state_of h) f ≡ true = both_true (ap is_tearing s.tearing) s.quiet in
    let goes_on = state_from-snoc start h (Kill x.id) in
    let later : may_sweep (state_of (h ++ Kill x.id ∷ [])) f ≡ true = ap (λ v. may_sweep v f) goes_on ∙ swept_after (state_of h) (Kill x.id) f may now refl in
    let killed = releases_count h (Kill x.id) f s.legal may now in
    let gone = releases_count (h ++ Kill x.id ∷ []) (Gone x.id kept) f legal go later in
    let shown = object_with-killed h f by x s free in
    let one : one_if (goes_from (state_of (h ++ Kill x.id ∷ [])) f (Gone x.id kept)) ≡ 1 = ap (λ v. one_if (is_of_file f v)) shown.0 ∙ ap one_if (eq-eqb x.file f shown.1) in
    omega (arith, killed, gone, one)

-- A teardown that had to wait.

-- a call on the file
pub record HasCallOn (m : State) (f : ℕ) : Type 0 where
  pub actor : ℕ
  pub call : InFlight
  pub is : call_of m actor ≡ Some call
  pub on : call.file ≡ f

pub record SlotOn (slots : List (Option InFlight)) (f : ℕ) : Type 0 where
  pub place : ℕ
  pub call : InFlight
  pub is : slice_get slots place ≡ Some (Some call)
  pub on : call.file ≡ f

slot_more : (slot : Option InFlight) (slots : List (Option InFlight)) (f : ℕ) → SlotOn slots f → SlotOn (slot ∷ slots) f
slot_more slot slots f s = record { place = suc s.place; call = s.call; is = s.is; on = s.on }

slot_here : (b : Bool) (slot : Option InFlight) (slots : List (Option InFlight)) (f : ℕ) → is_call_on f slot ≡ b → (b || list_any (is_call_on f) slots) ≡ true → (list_any (is_call_on f) slots ≡ true → SlotOn slots f) → SlotOn (slot ∷ slots) f
slot_here true None slots f here some later = absurd cc
slot_here true (Some k) slots f here some later = record { place = 0; call = k; is = refl; on = eqb-true k.file f here }
slot_here false slot slots f here some later = slot_more slot slots f (later some)

slot_on : (slots : List (Option InFlight)) (f : ℕ) → list_any (is_call_on f) slots ≡ true → SlotOn slots f
slot_on [] f some = absurd cc
slot_on (slot ∷ slots) f some = slot_here (is_call_on f slot) slot slots f refl some (slot_on slots f)

not_fails : (b : Bool) → not b ≡ false → b ≡ true
not_fails true h = refl
not_fails false h = absurd cc

pub call_on : (m : State) (f : ℕ) → is_quiet m f ≡ false → HasCallOn m f
call_on m f loud =
    let s = slot_on m.calls f (not_fails (list_any (is_call_on f) m.calls) loud) in
    record { actor = s.place; call = s.call; is = ap the_call s.is; on = s.on }

exit_objects : (m : State) (c o : ℕ) (slot : Option InFlight) (a : Answer) → (after_step m c slot Exit o a).objects ≡ m.objects
exit_objects m c o None a = refl
exit_objects m c o (Some call) a = refl

-- the exit of the last call on a file that is torn down leaves none of its objects doomed
module _ (m : State) (f : ℕ) (r : Reached m) (loud : is_quiet m f ≡ false) where
  not_swept : may_sweep m f ≡ true → ⊥
  not_swept swept = let quiet : is_quiet m f ≡ true = and_right (is_tearing (phase_of m f)) (is_quiet m f) swept in cc

  clear_at_exit : (c : ℕ) (call : InFlight) (m' : State) → call_of m c ≡ Some call → next_word call ≡ Exit → ((b : ℕ) → c ≢ b → call_of m' b ≡ call_of m b) → m'.objects ≡ m.objects → is_quiet m' f ≡ true → has_doomed m' f ≡ false
  clear_at_exit c call m' is word others objects quiet =
      ap (list_any (is_doomed_in f)) objects
      ∙ list_any-none (is_doomed_in f) m.objects
      (λ x k.
      false_unless (is_doomed_in f x)
      (λ doomed. (
      let of_it : x.file ≡ f = eqb-true x.file f (and_left (in_file f x) (is_doomed x.phase) doomed) in
      ⊎_elim
      (λ held.
      ⊎_elim
      (λ same. (
      let one : held.call ≡ call = same_Some held.call call (sym held.is ∙ ap (call_of m) (sym same.1) ∙ is) in
      let never : Finish ≡ Exit = sym held.word ∙ ap next_word one ∙ word in
      cc))
      (λ other. quiet_none m' held.actor f held.call quiet (others held.actor other.1 ∙ held.is) (held.same ∙ of_it))
      (eqb_tells c held.actor))
      (λ swept. not_swept (ap (may_sweep m) (sym of_it) ∙ swept))
      (r.ending x k (and_right (in_file f x) (is_doomed x.phase) doomed)))))

  module _ (on : HasCallOn m f) where
    -- an entry of another leaves the call where it is
    not_of_other : (e : Entry) → is_of on.actor e ≡ false → is_quiet (after m e) f ≡ true → ⊥
    not_of_other e other quiet = quiet_none (after m e) on.actor f on.call quiet (call_of-after m e on.actor other ∙ on.is) on.on

    stepped_clear : (c : ℕ) (w : Word) (o : ℕ) (found : Option QpState) (a : Answer) → Allowed m (Step c w o found a) → c ≡ on.actor → is_quiet (after m (Step c w o found a)) f ≡ true → has_doomed (after m (Step c w o found a)) f ≡ false
    stepped_clear c w o found a allowed same quiet =
        let m' = after m (Step c w o found a) in
        let t = IsTurn-allowed m c w o found a allowed in
        let k = calls_turn m c t.call a m' t.turn in
        let now : call_of m' c ≡ k.change (Some t.call) = call_of-changed m m' c k.change t.call k.calls t.is in
        let mine : on.call ≡ t.call = same_Some on.call t.call (sym on.is ∙ ap (call_of m) (sym same) ∙ t.is) in
        ⊎_elim
        (λ stays. absurd (quiet_none m' c f stays.left quiet (now ∙ stays.is) (stays.file ∙ sym (ap (λ (v : InFlight). v.file) mine) ∙ on.on)))
        (λ leaves. (
        let objects : m'.objects ≡ m.objects = ap (λ v. (after_step m c (call_of m c) v o a).objects) leaves.0 ∙ exit_objects m c o (call_of m c) a in
        clear_at_exit c t.call m' t.is (t.word ∙ leaves.0) (λ b other. call_of-other m m' c k.change k.calls b other) objects quiet))
        (stays_or_leaves t.call w (k.change (Some t.call)) t.word k.own)

    clear_after : (e : Entry) → Allowed m e → is_quiet (after m e) f ≡ true → has_doomed (after m e) f ≡ false
    clear_after (Open c k d a) allowed quiet = absurd (not_of_other (Open c k d a) refl quiet)
    clear_after (Enter c k request a) allowed quiet =
        ⊎_elim
        (λ same. absurd (none-some on.call (sym allowed.2 ∙ ap (call_of m) same.1 ∙ on.is)))
        (λ other. absurd (not_of_other (Enter c k request a) other.0 quiet))
        (eqb_tells c on.actor)
    clear_after (Step c w o found a) allowed quiet =
        ⊎_elim
        (λ same. stepped_clear c w o found a allowed same.1 quiet)
        (λ other. absurd (not_of_other (Step c w o found a) other.0 quiet))
        (eqb_tells c on.actor)
    clear_after (Unplug d) allowed quiet = absurd (not_of_other (Unplug d) refl quiet)
    clear_after (Tear k by) allowed quiet = absurd (not_of_other (Tear k by) refl quiet)
    clear_after (Kill o) allowed quiet = absurd (not_of_other (Kill o) refl quiet)
    clear_after (Gone o kept) allowed quiet = absurd (not_of_other (Gone o kept) refl quiet)
    clear_after (Dissociated k) allowed quiet = absurd (not_of_other (Dissociated k) refl quiet)
    clear_after (Closed k) allowed quiet = absurd (not_of_other (Closed k) refl quiet)

    still : (e : Entry) → Allowed m e → is_quiet (after m e) f ≡ true → moves f e ≡ false
    still (Open c k d a) allowed quiet = absurd (not_of_other (Open c k d a) refl quiet)
    still (Enter c k request a) allowed quiet = refl
    still (Step c w o found a) allowed quiet = refl
    still (Unplug d) allowed quiet = refl
    still (Tear k by) allowed quiet = absurd (not_of_other (Tear k by) refl quiet)
    still (Kill o) allowed quiet = refl
    still (Gone o kept) allowed quiet = refl
    still (Dissociated k) allowed quiet = absurd (not_of_other (Dissociated k) refl quiet)
    still (Closed k) allowed quiet = absurd (not_of_other (Closed k) refl quiet)

pub sweep_waits : SweepWaits
sweep_waits h e f by legal allowed tearing loud quiet =
    let m = state_of h in
    let r = Reached-state_of h legal in
    let on = call_on m f loud in
    let goes_on = state_from-snoc start h e in
    let now : is_quiet (after m e) f ≡ true = sym (ap (λ v. is_quiet v f) goes_on) ∙ quiet in
    record {
      legal = IsLegalFrom-snoc start h e legal allowed;
      quiet = quiet;
      tearing = ap (λ v. phase_of v f) goes_on ∙ (phase_of-apart m e f (still m f r loud on e allowed now) ∙ tearing);
      clear = ap (λ v. has_doomed v f) goes_on ∙ clear_after m f r loud on e allowed now;
    }
