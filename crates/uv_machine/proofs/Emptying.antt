-- What becomes of the objects of a file that is torn down and has no calls, counted.
use Rattle.std.proofs.Common.{◌≡◌, ◌≢◌, ◌<◌, ℕ, ◌+◌, inl, inr, Bool, true, false, List, [], ◌∷◌, ◌++◌, Option, Some, None, cond, count_by, map, refl, ap, sym, ◌∙◌, arith, ⊎_elim}
use Rattle.std.specs.Prelude.{not, ◌&&◌, ◌==◌, nat_lt, filter, length, reverse, if◌then◌else◌}
use Rattle.std.specs.List.{list_any}
use Rattle.std.specs.Cmp.Derive.{both_true}
use Rattle.std.proofs.lemmas.Option.{none-some}
use Rattle.std.proofs.lemmas.Bool.{and_parts, eqb-true, eq-eqb, ne_eqb}
use Rattle.std.proofs.lemmas.Bool.Decides.{eqb_tells}
use Rattle.uv_num.specs.declared.errno.Errno.{Errno}
use Rattle.uv_num.specs.declared.errno.Errno.TheVariants.{Inval}
use Rattle.uv_num.specs.declared.limits.TheConstants.{DRIVER, MOST_OBJECTS}
use Rattle.uv_num.specs.declared.request.Act as request
use Rattle.uv_num.specs.declared.request.Act.TheVariants.{Modify, Query, Bind, Unbind, Async}
use Rattle.uv_num.specs.declared.request.Request.{Request}
use Rattle.uv_num.specs.Place.{at_place}
use Rattle.uv_machine.specs.declared.entry.Entry.{Entry}
use Rattle.uv_machine.specs.declared.entry.Entry.TheVariants.{Open, Enter, Step, Unplug, Tear, Kill, Gone, Dissociated, Closed}
use Rattle.uv_machine.specs.declared.entry.Answer.{Answer}
use Rattle.uv_machine.specs.declared.file.FilePhase.{FilePhase}
use Rattle.uv_machine.specs.declared.file.FilePhase.TheVariants as file
use Rattle.uv_machine.specs.declared.object.Phase.{Phase}
use Rattle.uv_machine.specs.declared.object.Phase.TheVariants as phase
use Rattle.uv_machine.specs.declared.object.Binding.{Binding}
use Rattle.uv_machine.specs.declared.object.Object.{Object}
use Rattle.uv_machine.specs.declared.object.Change.{Change}
use Rattle.uv_machine.specs.declared.object.Change.TheVariants.{ToLive, ToDoomed, ToHusk, ToBound}
use Rattle.uv_machine.specs.declared.call.InFlight.{InFlight}
use Rattle.uv_machine.specs.declared.state.State.{State}
use Rattle.uv_machine.specs.Accounts.{one_if}
use Rattle.uv_machine.specs.Objects.{has_id, in_file, is_live, is_doomed, is_husk, doomed_from, with_change, on_object}
use Rattle.uv_machine.specs.Plans.{own_object, acted_on, entered, is_call_on}
use Rattle.uv_machine.specs.States.{call_of, object_with, phase_of, device_of, is_unplugged, is_quiet, is_fresh, is_open, is_callable, is_tearing, is_removing, is_closing, has_users, has_doomed, has_standing, can_go, newest_free, start}
use Rattle.uv_machine.specs.Effects.{refusal_in, act, binding_of, not_with_id, not_in_file, gone_from, with_file, opened, unless_answered, put_call}
use Rattle.uv_machine.specs.Outside.{MayAnswer, may_sweep, is_object, may_kill_object, may_kill, may_go_object, may_go}
use Rattle.uv_machine.specs.Histories.{Allowed, after, state_of}
use Rattle.uv_machine.specs.Laws.{standing_count}
use Rattle.uv_machine.specs.Reached.{IsIn, IsRising, Reached}
use Rattle.uv_machine.specs.Removals.{live_count, is_of_file, kills_of, goes_from, ends_of, TornStaysQuiet, ReleasesCount, KillsCount}
use Rattle.uv_machine.proofs.GoingOn.{state_from-snoc}
use Rattle.uv_machine.proofs.Members.{count_by-cons, Passes-find, IsIn-from_reverse, fails_any, list_any-none}
use Rattle.uv_machine.proofs.Members as members
use Rattle.uv_machine.proofs.Turns.{Turn, object_made, IsTurn-allowed}
use Rattle.uv_machine.proofs.Turns.Turn.{Refuses, Reserves, Looks, Makes, Commits, Does, Locks, Checks, Finishes, Aborts, Frees, Leaves}
use Rattle.uv_machine.proofs.OwnCall.{calls_turn}
use Rattle.uv_machine.proofs.Apart.{calls_gone}
use Rattle.uv_machine.proofs.Calling.{quiet_none, quiet_stays, quiet_turn}
use Rattle.uv_machine.proofs.Changing.{changed_if, on_object-file}
use Rattle.uv_machine.proofs.Graph.{within_rising}
use Rattle.uv_machine.proofs.Holding.{finish_objects}
use Rattle.uv_machine.proofs.Keeping.{same_object, owns_at_commit, owns_at_check, owns_at_finish}
use Rattle.uv_machine.proofs.FilesApart.{phase_of-apart}
use Rattle.uv_machine.proofs.Reaching.{was_callable, Reached-state_of}
use Rattle.uv_machine.proofs.Balanced.{not_so, not_standing}

and_left : (a b : Bool) → (a && b) ≡ true → a ≡ true
and_left a b h = (and_parts a b h).0

and_right : (a b : Bool) → (a && b) ≡ true → b ≡ true
and_right a b h = (and_parts a b h).1

and_true : (a b : Bool) → b ≡ true → (a && b) ≡ a
and_true true true e = refl
and_true true false e = absurd cc
and_true false b e = refl

and_false : (a b : Bool) → b ≡ false → (a && b) ≡ false
and_false true b e = e
and_false false b e = refl

not_false : (b : Bool) → not b ≡ false → b ≡ true
not_false true h = refl
not_false false h = absurd cc

-- A file that stays quiet while it is torn down.

callable_not_tearing : (p : FilePhase) → is_callable p ≡ true → is_tearing p ≡ true → ⊥
callable_not_tearing file.Fresh h t = cc
callable_not_tearing file.Open h t = cc
callable_not_tearing (file.Tearing by) h t = cc
callable_not_tearing file.Dissociated h t = cc
callable_not_tearing file.Closed h t = cc

fresh_not_tearing : (p : FilePhase) → is_fresh p ≡ true → is_tearing p ≡ true → ⊥
fresh_not_tearing file.Fresh h t = cc
fresh_not_tearing file.Open h t = cc
fresh_not_tearing (file.Tearing by) h t = cc
fresh_not_tearing file.Dissociated h t = cc
fresh_not_tearing file.Closed h t = cc

open_not_tearing : (p : FilePhase) → is_open p ≡ true → is_tearing p ≡ true → ⊥
open_not_tearing file.Fresh h t = cc
open_not_tearing file.Open h t = cc
open_not_tearing (file.Tearing by) h t = cc
open_not_tearing file.Dissociated h t = cc
open_not_tearing file.Closed h t = cc

torn_once : (p : FilePhase) (driver gone : Bool) → (if driver then is_open p && gone else is_callable p) ≡ true → is_tearing p ≡ true → ⊥
torn_once p true gone h t = open_not_tearing p (and_left (is_open p) gone h) t
torn_once p false gone h t = callable_not_tearing p h t

-- an open that was taken found its file fresh
was_fresh : (fresh : Bool) (rest : Option Errno) (a : Answer) → MayAnswer (if not fresh then Some Inval else rest) a → refusal_in a ≡ None → fresh ≡ true
was_fresh true rest a may fine = refl
was_fresh false rest a may fine = absurd (none-some Inval (sym fine ∙ ap refusal_in may))

unless_phase : (m m' : State) (r : Option Errno) (f : ℕ) → (r ≡ None → phase_of m' f ≡ phase_of m f) → phase_of (unless_answered m r m') f ≡ phase_of m f
unless_phase m m' None f same = same refl
unless_phase m m' (Some e) f same = refl

quiet_alike : (m m' : State) (f : ℕ) → m'.calls ≡ m.calls → is_quiet m f ≡ true → is_quiet m' f ≡ true
quiet_alike m m' f same quiet = ap (λ (v : List (Option InFlight)). not (list_any (is_call_on f) v)) same ∙ quiet

quiet_unless : (m m' : State) (r : Option Errno) (f : ℕ) → is_quiet m f ≡ true → (r ≡ None → is_quiet m' f ≡ true) → is_quiet (unless_answered m r m') f ≡ true
quiet_unless m m' None f quiet put = put refl
quiet_unless m m' (Some e) f quiet put = quiet

module _ (m : State) (f : ℕ) (swept : may_sweep m f ≡ true) where
  tearing_now : is_tearing (phase_of m f) ≡ true
  tearing_now = and_left (is_tearing (phase_of m f)) (is_quiet m f) swept

  quiet_now : is_quiet m f ≡ true
  quiet_now = and_right (is_tearing (phase_of m f)) (is_quiet m f) swept

  entered_quiet : (c k : ℕ) (request : Request) (a : Answer) → is_callable (phase_of m k) ≡ true → is_quiet (record m { calls = at_place m.calls c (put_call (entered k request)) }) f ≡ true
  entered_quiet c k request a callable =
      quiet_stays m (record m { calls = at_place m.calls c (put_call (entered k request)) }) c f (put_call (entered k request)) refl
      (λ x at on. absurd (callable_not_tearing (phase_of m f) (ap (λ i. is_callable (phase_of m i)) (sym (eqb-true k f on)) ∙ callable) tearing_now))
      quiet_now

  quiet_after : (e : Entry) → Allowed m e → is_quiet (after m e) f ≡ true
  quiet_after (Open c k d a) allowed = quiet_unless m (with_file m k (opened c d)) (refusal_in a) f quiet_now (λ fine. quiet_now)
  quiet_after (Enter c k request a) allowed =
      quiet_unless m (record m { calls = at_place m.calls c (put_call (entered k request)) }) (refusal_in a) f quiet_now (λ fine. entered_quiet c k request a (was_callable (is_callable (phase_of m k)) _ a allowed.3 fine))
  quiet_after (Step c w o found a) allowed =
      let t = IsTurn-allowed m c w o found a allowed in
      quiet_turn m (after m (Step c w o found a)) c t.call f t.is (calls_turn m c t.call a (after m (Step c w o found a)) t.turn) quiet_now
  quiet_after (Unplug d) allowed = quiet_now
  quiet_after (Tear k by) allowed = quiet_now
  quiet_after (Kill o) allowed = quiet_now
  quiet_after (Gone o kept) allowed = quiet_alike m (gone_from m o (object_with m o)) f (calls_gone m o (object_with m o)) quiet_now
  quiet_after (Dissociated k) allowed = quiet_now
  quiet_after (Closed k) allowed = quiet_now

  open_refused : (c k d : ℕ) (a : Answer) → Allowed m (Open c k d a) → k ≡ f → phase_of (after m (Open c k d a)) f ≡ phase_of m f
  open_refused c k d a allowed same =
      unless_phase m (with_file m k (opened c d)) (refusal_in a) f
      (λ fine. absurd (fresh_not_tearing (phase_of m f) (ap (λ i. is_fresh (phase_of m i)) (sym same) ∙ was_fresh (is_fresh (phase_of m k)) _ a allowed.3 fine) tearing_now))

  phase_after : (e : Entry) → Allowed m e → ends_of f e ≡ false → phase_of (after m e) f ≡ phase_of m f
  phase_after (Open c k d a) allowed goes =
      ⊎_elim
      (λ same. open_refused c k d a allowed same.1)
      (λ other. phase_of-apart m (Open c k d a) f other.0)
      (eqb_tells k f)
  phase_after (Enter c k request a) allowed goes = phase_of-apart m (Enter c k request a) f refl
  phase_after (Step c w o found a) allowed goes = phase_of-apart m (Step c w o found a) f refl
  phase_after (Unplug d) allowed goes = phase_of-apart m (Unplug d) f refl
  phase_after (Tear k by) allowed goes =
      ⊎_elim
      (λ same. absurd (torn_once (phase_of m k) (by == DRIVER) (is_unplugged m (device_of m k)) allowed.2 (ap (λ i. is_tearing (phase_of m i)) same.1 ∙ tearing_now)))
      (λ other. phase_of-apart m (Tear k by) f other.0)
      (eqb_tells k f)
  phase_after (Kill o) allowed goes = phase_of-apart m (Kill o) f refl
  phase_after (Gone o kept) allowed goes = phase_of-apart m (Gone o kept) f refl
  phase_after (Dissociated k) allowed goes = phase_of-apart m (Dissociated k) f goes
  phase_after (Closed k) allowed goes = phase_of-apart m (Closed k) f goes

pub torn_stays_quiet : TornStaysQuiet
torn_stays_quiet m e f allowed swept goes = (phase_after m f swept e allowed goes, quiet_after m f swept e allowed)

pub swept_after : (m : State) (e : Entry) (f : ℕ) → Allowed m e → may_sweep m f ≡ true → ends_of f e ≡ false → may_sweep (after m e) f ≡ true
swept_after m e f allowed swept goes =
    both_true (ap is_tearing (phase_after m f swept e allowed goes) ∙ tearing_now m f swept) (quiet_after m f swept e allowed)

-- Counts after changes of lists.

module _ {X : Type 0} (p : X → Bool) where
  -- items that a change leaves as they were, as far as the test goes
  pub count_same : (g : X → X) (xs : List X) → ((x : X) → IsIn x xs → p (g x) ≡ p x) → count_by p (map g xs) ≡ count_by p xs
  count_same g [] same = refl
  count_same g (x ∷ xs) same =
      let here : members.one_if (p (g x)) ≡ members.one_if (p x) = ap members.one_if (same x (inl refl)) in
      omega (arith, count_by-cons p (g x) (map g xs), count_by-cons p x xs, here, count_same g xs (λ y k. same y (inr k)))

  count_kept_by : (k : Bool) (x : X) (xs fewer : List X) → (k ≡ false → p x ≡ false) → count_by p fewer ≡ count_by p xs → count_by p (cond k (x ∷ fewer) fewer) ≡ count_by p (x ∷ xs)
  count_kept_by true x xs fewer none rest = omega (arith, count_by-cons p x fewer, count_by-cons p x xs, rest)
  count_kept_by false x xs fewer none rest =
      let zero : members.one_if (p x) ≡ 0 = ap members.one_if (none refl) in
      omega (arith, count_by-cons p x xs, zero, rest)

  -- what is taken out doesn't count
  pub count_kept : (k : X → Bool) (xs : List X) → ((x : X) → IsIn x xs → k x ≡ false → p x ≡ false) → count_by p (filter k xs) ≡ count_by p xs
  count_kept k [] none = refl
  count_kept k (x ∷ xs) none = count_kept_by (k x) x xs (filter k xs) (none x (inl refl)) (count_kept k xs (λ y h. none y (inr h)))

  -- nor does what is put after
  pub count_pushed : (xs : List X) (y : X) → p y ≡ false → count_by p (xs ++ y ∷ []) ≡ count_by p xs
  count_pushed [] y none =
      let zero : members.one_if (p y) ≡ 0 = ap members.one_if none in
      omega (arith, count_by-cons p y [], zero)
  count_pushed (x ∷ xs) y none = omega (arith, count_by-cons p x (xs ++ y ∷ []), count_by-cons p x xs, count_pushed xs y none)

  -- two tests that agree on the items
  pub count_agrees : (q : X → Bool) (xs : List X) → ((x : X) → IsIn x xs → p x ≡ q x) → count_by p xs ≡ count_by q xs
  count_agrees q [] same = refl
  count_agrees q (x ∷ xs) same =
      let here : members.one_if (p x) ≡ members.one_if (q x) = ap members.one_if (same x (inl refl)) in
      omega (arith, count_by-cons p x xs, count_by-cons q x xs, here, count_agrees q xs (λ y k. same y (inr k)))

one_if_same : (b : Bool) → members.one_if b ≡ one_if b
one_if_same true = refl
one_if_same false = refl

-- Objects that a change leaves, and the one that it changes.

pub on_object-here : (o : ℕ) (change : Change) (x : Object) → x.id ≡ o → on_object o change x ≡ with_change change x
on_object-here o change x e = ap (λ b. changed_if b change x) (eq-eqb x.id o e)

pub on_object-apart : (o : ℕ) (change : Change) (x : Object) → x.id ≢ o → on_object o change x ≡ x
on_object-apart o change x ne = ap (λ b. changed_if b change x) (ne_eqb x.id o ne)

module _ (p : Object → Bool) (o : ℕ) (change : Change) where
  -- the objects after one of this id aren't changed
  count_rest : (low top : ℕ) (xs : List Object) → IsRising low xs top → o < low → count_by p (map (on_object o change) xs) ≡ count_by p xs
  count_rest low top xs rising above =
      count_same p (on_object o change) xs
      (λ x k. (let bounds = within_rising low top x xs k rising in ap p (on_object-apart o change x (let high = bounds.0 in omega arith))))

  -- the count changes as its one object does
  pub count_changed : (low top : ℕ) (xs : List Object) (x : Object) → IsRising low xs top → IsIn x xs → x.id ≡ o → count_by p (map (on_object o change) xs) + one_if (p x) ≡ count_by p xs + one_if (p (with_change change x))
  count_changed low top [] x rising k id = absurd k
  count_changed low top (y ∷ ys) x rising (inl e) id =
      let same : y.id ≡ o = sym (ap (λ (v : Object). v.id) e) ∙ id in
      let rest = count_rest (y.id + 1) top ys rising.1 (omega arith) in
      let here : members.one_if (p (on_object o change y)) ≡ one_if (p (with_change change x)) = one_if_same (p (on_object o change y)) ∙ ap (λ v. one_if (p v)) (on_object-here o change y same ∙ ap (with_change change) (sym e)) in
      let was : members.one_if (p y) ≡ one_if (p x) = one_if_same (p y) ∙ ap (λ v. one_if (p v)) (sym e) in
      omega (arith, count_by-cons p (on_object o change y) (map (on_object o change) ys), count_by-cons p y ys, rest, here, was)
  count_changed low top (y ∷ ys) x rising (inr k) id =
      let bounds = within_rising (y.id + 1) top x ys k rising.1 in
      let ne : y.id ≢ o = (let high = bounds.0 in omega arith) in
      let here : members.one_if (p (on_object o change y)) ≡ members.one_if (p y) = ap (λ v. members.one_if (p v)) (on_object-apart o change y ne) in
      omega (arith, count_by-cons p (on_object o change y) (map (on_object o change) ys), count_by-cons p y ys, here, count_changed (y.id + 1) top ys x rising.1 k id)

-- The objects of a file, tested by their phases.

abbrev pub counts : ℕ → (Phase → Bool) → Object → Bool
counts f q x = in_file f x && q x.phase

counts_elsewhere : (f : ℕ) (q : Phase → Bool) (x : Object) → x.file ≢ f → counts f q x ≡ false
counts_elsewhere f q x ne = ap (λ b. b && q x.phase) (ne_eqb x.file f ne)

module _ (m : State) (r : Reached m) (f : ℕ) (q : Phase → Bool) (empty : q phase.Husk ≡ false) where
  counts_bound_by : (b : Bool) (binding : Option Binding) (x : Object) → counts f q (changed_if b (ToBound binding) x) ≡ counts f q x
  counts_bound_by true binding x = refl
  counts_bound_by false binding x = refl

  count_bound : (o : ℕ) (binding : Option Binding) → count_by (counts f q) (map (on_object o (ToBound binding)) m.objects) ≡ count_by (counts f q) m.objects
  count_bound o binding = count_same (counts f q) _ m.objects (λ x k. counts_bound_by (has_id o x) binding x)

  count_as : (m' n : State) → m' ≡ n → count_by (counts f q) n.objects ≡ count_by (counts f q) m.objects → count_by (counts f q) m'.objects ≡ count_by (counts f q) m.objects
  count_as m' n e h = ap (λ (s : State). count_by (counts f q) s.objects) e ∙ h

  count_room : (b : Bool) (z : Object) → z.file ≢ f → count_by (counts f q) (if b then m.objects ++ z ∷ [] else m.objects) ≡ count_by (counts f q) m.objects
  count_room true z ne = count_pushed (counts f q) m.objects z (counts_elsewhere f q z ne)
  count_room false z ne = refl

  husk_none : (p : Phase) → is_husk p ≡ true → q p ≡ false
  husk_none phase.Made h = absurd cc
  husk_none phase.Live h = absurd cc
  husk_none phase.Doomed h = absurd cc
  husk_none phase.Husk h = empty

  -- a turn of a call on another file
  module _ (c : ℕ) (call : InFlight) (is : call_of m c ≡ Some call) (apart : call.file ≢ f) where
    owned_elsewhere : call.locked ≡ Some (own_object call) → (x : Object) → IsIn x m.objects → x.id ≡ own_object call → x.file ≢ f
    owned_elsewhere owns x k id same = apart (sym ((r.holds_well c call is).placed (own_object call) owns x k id) ∙ same)

    changed_elsewhere : (change : Change) → call.locked ≡ Some (own_object call) → count_by (counts f q) (map (on_object (own_object call) change) m.objects) ≡ count_by (counts f q) m.objects
    changed_elsewhere change owns =
        count_same (counts f q) _ m.objects
        (λ x k.
        ⊎_elim
        (λ same. (let ne = owned_elsewhere owns x k same.1 in counts_elsewhere f q (on_object (own_object call) change x) (λ e. ne (sym (on_object-file (own_object call) change x) ∙ e)) ∙ sym (counts_elsewhere f q x ne)))
        (λ other. ap (counts f q) (on_object-apart (own_object call) change x other.1))
        (eqb_tells x.id (own_object call)))

    count_act : (a : Answer) (what : request.Act) → count_by (counts f q) (act m c call a what).objects ≡ count_by (counts f q) m.objects
    count_act a (Modify to attrs) = refl
    count_act a Query = refl
    count_act a (Bind offset long access) = count_bound (acted_on call) (Some (binding_of call offset long access))
    count_act a (Unbind offset long access) = count_bound (acted_on call) None
    count_act a Async = refl

    count_turn : (a : Answer) (m' : State) → Turn m c call a m' → count_by (counts f q) m'.objects ≡ count_by (counts f q) m.objects
    count_turn a m' (Refuses t) = count_as m' _ t.gives refl
    count_turn a m' (Reserves t) = count_as m' _ t.gives refl
    count_turn a m' (Looks t) = count_as m' _ t.gives refl
    count_turn a m' (Makes t) = count_as m' _ t.gives (count_room (nat_lt (length m.objects) MOST_OBJECTS) (object_made m call t.kind t.index) apart)
    count_turn a m' (Commits t) = count_as m' _ t.gives (changed_elsewhere ToLive (owns_at_commit m r c call is t.plan))
    count_turn a m' (Does t) = count_as m' _ t.gives (count_act a t.what)
    count_turn a m' (Locks t) = count_as m' _ t.gives refl
    count_turn a m' (Checks t) = count_as m' _ t.gives (changed_elsewhere ToDoomed (owns_at_check m r c call is t.plan))
    count_turn a m' (Finishes t) =
        count_as m' _ t.gives
        (ap (count_by (counts f q)) (finish_objects m c (own_object call))
        ∙ count_kept (counts f q) (not_with_id (own_object call)) m.objects
        (λ x k lost. counts_elsewhere f q x (owned_elsewhere (owns_at_finish m r c call is t.plan) x k (eqb-true x.id (own_object call) (not_false (has_id (own_object call) x) lost)))))
    count_turn a m' (Aborts t) = count_as m' _ t.gives refl
    count_turn a m' (Frees t) = count_as m' _ t.gives refl
    count_turn a m' (Leaves t) = count_as m' _ t.gives refl

  count_unless : (m' : State) (e : Option Errno) → count_by (counts f q) m'.objects ≡ count_by (counts f q) m.objects → count_by (counts f q) (unless_answered m e m').objects ≡ count_by (counts f q) m.objects
  count_unless m' None same = same
  count_unless m' (Some e) same = refl

  -- a file whose objects are all husks is closed
  count_closed : (k : ℕ) → has_standing m k ≡ false → count_by (counts f q) (filter (not_in_file k) m.objects) ≡ count_by (counts f q) m.objects
  count_closed k none =
      count_kept (counts f q) (not_in_file k) m.objects
      (λ x h lost. (
      let of_it : x.file ≡ k = eqb-true x.file k (not_false (in_file k x) lost) in
      and_false (in_file f x) (q x.phase) (husk_none x.phase (not_standing m k x none h of_it))))

-- What a teardown changes.

-- an object that is killed, or is gone
pub record IsTaken (m : State) (o : ℕ) (was : Phase → Bool) : Type 0 where
  pub item : Object
  pub is : object_with m o ≡ Some item
  pub within : IsIn item m.objects
  pub id : item.id ≡ o
  pub phase : was item.phase ≡ true

pub record LiveObject (m : State) (o : ℕ) : Type 0 where
  pub item : Object
  pub within : IsIn item m.objects
  pub id : item.id ≡ o
  pub live : is_live item.phase ≡ true

live_slot : (m : State) (f o : ℕ) (slot : Option Object) → newest_free m f ≡ slot → is_object o slot ≡ true → LiveObject m o
live_slot m f o None is e = absurd cc
live_slot m f o (Some x) is e =
    let p = Passes-find (can_go m f) x (reverse m.objects) is in
    record {
      item = x;
      within = IsIn-from_reverse x m.objects p.within;
      id = eqb-true x.id o e;
      live = and_left (is_live x.phase) (not (has_users m x.id)) (and_right (in_file f x) (is_live x.phase && not (has_users m x.id)) p.test);
    }

killed_by : (m : State) (o : ℕ) (slot : Option Object) → Reached m → object_with m o ≡ slot → may_kill_object m o slot ≡ true → IsTaken m o is_live
killed_by m o None r is may = absurd cc
killed_by m o (Some x) r is may =
    let p = Passes-find (has_id o) x m.objects is in
    let id : x.id ≡ o = eqb-true x.id o p.test in
    let newest = and_right (not (has_doomed m x.file)) (is_object o (newest_free m x.file)) (and_right (may_sweep m x.file) (not (has_doomed m x.file) && is_object o (newest_free m x.file)) may) in
    let y = live_slot m x.file o (newest_free m x.file) refl newest in
    let same : x ≡ y.item = same_object m r x y.item p.within y.within (id ∙ sym y.id) in
    record { item = x; is = is; within = p.within; id = id; phase = ap (λ (v : Object). is_live v.phase) same ∙ y.live }

killed : (m : State) (o : ℕ) → Reached m → may_kill m o ≡ true → IsTaken m o is_live
killed m o r may = killed_by m o (object_with m o) r refl may

gone_by : (m : State) (o : ℕ) (slot : Option Object) → object_with m o ≡ slot → may_go_object m slot ≡ true → IsTaken m o is_doomed
gone_by m o None is may = absurd cc
gone_by m o (Some x) is may =
    let p = Passes-find (has_id o) x m.objects is in
    record { item = x; is = is; within = p.within; id = eqb-true x.id o p.test; phase = and_left (is_doomed x.phase) (may_sweep m x.file) may }

pub gone : (m : State) (o : ℕ) → may_go m o ≡ true → IsTaken m o is_doomed
gone m o may = gone_by m o (object_with m o) refl may

doomed_of_live : (p : Phase) → is_live p ≡ true → doomed_from p ≡ phase.Doomed
doomed_of_live phase.Made h = absurd cc
doomed_of_live phase.Live h = refl
doomed_of_live phase.Doomed h = absurd cc
doomed_of_live phase.Husk h = absurd cc

doomed_is : (p : Phase) → is_doomed p ≡ true → p ≡ phase.Doomed
doomed_is phase.Made h = absurd cc
doomed_is phase.Live h = absurd cc
doomed_is phase.Doomed h = refl
doomed_is phase.Husk h = absurd cc

live_is : (p : Phase) → is_live p ≡ true → p ≡ phase.Live
live_is phase.Made h = absurd cc
live_is phase.Live h = refl
live_is phase.Doomed h = absurd cc
live_is phase.Husk h = absurd cc

-- the objects of a file that count, after a kill and after a going
module _ (m : State) (r : Reached m) (f : ℕ) (q : Phase → Bool) where
  count_killed : (o : ℕ) (t : IsTaken m o is_live) → count_by (counts f q) (map (on_object o ToDoomed) m.objects) + one_if (in_file f t.item && q phase.Live) ≡ count_by (counts f q) m.objects + one_if (in_file f t.item && q phase.Doomed)
  count_killed o t =
      let x = t.item in
      let now : one_if (counts f q x) ≡ one_if (in_file f x && q phase.Live) = ap (λ v. one_if (in_file f x && q v)) (live_is x.phase t.phase) in
      let later : one_if (counts f q (with_change ToDoomed x)) ≡ one_if (in_file f x && q phase.Doomed) = ap (λ v. one_if (in_file f x && q v)) (doomed_of_live x.phase t.phase) in
      omega (arith, count_changed (counts f q) o ToDoomed 0 m.made m.objects x r.graph.rising t.within t.id, now, later)

  count_gone : (o : ℕ) (t : IsTaken m o is_doomed) → count_by (counts f q) (map (on_object o ToHusk) m.objects) + one_if (in_file f t.item && q phase.Doomed) ≡ count_by (counts f q) m.objects + one_if (in_file f t.item && q phase.Husk)
  count_gone o t =
      let x = t.item in
      let now : one_if (counts f q x) ≡ one_if (in_file f x && q phase.Doomed) = ap (λ v. one_if (in_file f x && q v)) (doomed_is x.phase t.phase) in
      omega (arith, count_changed (counts f q) o ToHusk 0 m.made m.objects x r.graph.rising t.within t.id, now)

abbrev pub stands : Phase → Bool
stands p = not (is_husk p)

-- what ends a teardown found nothing standing
pub closed_empty : (m : State) (k : ℕ) → Allowed m (Closed k) → has_standing m k ≡ false
closed_empty m k allowed =
    let parts = and_parts (is_closing (phase_of m k)) (is_quiet m k && not (has_standing m k)) allowed.1 in
    not_so (has_standing m k) (and_parts (is_quiet m k) (not (has_standing m k)) parts.1).1

pub dissociated_empty : (m : State) (k : ℕ) → Allowed m (Dissociated k) → has_standing m k ≡ false
dissociated_empty m k allowed =
    let parts = and_parts (is_removing (phase_of m k)) (is_quiet m k && not (has_standing m k)) allowed.1 in
    not_so (has_standing m k) (and_parts (is_quiet m k) (not (has_standing m k)) parts.1).1

one_and_true : (b : Bool) → one_if (b && true) ≡ one_if b
one_and_true true = refl
one_and_true false = refl

one_and_false : (b : Bool) → one_if (b && false) ≡ 0
one_and_false true = refl
one_and_false false = refl

module _ (m : State) (r : Reached m) (f : ℕ) (swept : may_sweep m f ≡ true) where
  step_apart : (c : ℕ) (call : InFlight) → call_of m c ≡ Some call → call.file ≢ f
  step_apart c call is = quiet_none m c f call (quiet_now m f swept) is

  standing_gone : (o : ℕ) (t : IsTaken m o is_doomed) → count_by (counts f stands) (gone_from m o (object_with m o)).objects + one_if (is_of_file f (object_with m o)) ≡ count_by (counts f stands) m.objects
  standing_gone o t =
      let objects : count_by (counts f stands) (gone_from m o (object_with m o)).objects ≡ count_by (counts f stands) (map (on_object o ToHusk) m.objects) = ap (λ slot. count_by (counts f stands) (gone_from m o slot).objects) t.is in
      let one : one_if (is_of_file f (object_with m o)) ≡ one_if (in_file f t.item) = ap (λ slot. one_if (is_of_file f slot)) t.is in
      omega (arith, objects, one, count_gone m r f stands o t, one_and_true (in_file f t.item), one_and_false (in_file f t.item))

  live_gone : (o : ℕ) (t : IsTaken m o is_doomed) → count_by (counts f is_live) (gone_from m o (object_with m o)).objects ≡ count_by (counts f is_live) m.objects
  live_gone o t =
      let objects : count_by (counts f is_live) (gone_from m o (object_with m o)).objects ≡ count_by (counts f is_live) (map (on_object o ToHusk) m.objects) = ap (λ slot. count_by (counts f is_live) (gone_from m o slot).objects) t.is in
      omega (arith, objects, count_gone m r f is_live o t, one_and_false (in_file f t.item))

  live_killed : (o : ℕ) (t : IsTaken m o is_live) → count_by (counts f is_live) (map (on_object o ToDoomed) m.objects) + one_if (is_of_file f (object_with m o)) ≡ count_by (counts f is_live) m.objects
  live_killed o t =
      let one : one_if (is_of_file f (object_with m o)) ≡ one_if (in_file f t.item) = ap (λ slot. one_if (is_of_file f slot)) t.is in
      omega (arith, one, count_killed m r f is_live o t, one_and_true (in_file f t.item), one_and_false (in_file f t.item))

  standing_killed : (o : ℕ) (t : IsTaken m o is_live) → count_by (counts f stands) (map (on_object o ToDoomed) m.objects) ≡ count_by (counts f stands) m.objects
  standing_killed o t = omega (arith, count_killed m r f stands o t)

  pub standing_after : (e : Entry) → Allowed m e → standing_count (after m e) f + one_if (goes_from m f e) ≡ standing_count m f
  standing_after (Open c k d a) allowed = omega (arith, count_unless m r f stands refl (with_file m k (opened c d)) (refusal_in a) refl)
  standing_after (Enter c k request a) allowed = omega (arith, count_unless m r f stands refl (record m { calls = at_place m.calls c (put_call (entered k request)) }) (refusal_in a) refl)
  standing_after (Step c w o found a) allowed =
      let t = IsTurn-allowed m c w o found a allowed in
      omega (arith, count_turn m r f stands refl c t.call t.is (step_apart c t.call t.is) a (after m (Step c w o found a)) t.turn)
  standing_after (Unplug d) allowed = omega arith
  standing_after (Tear k by) allowed = omega arith
  standing_after (Kill o) allowed = omega (arith, standing_killed o (killed m o r allowed))
  standing_after (Gone o kept) allowed = standing_gone o (gone m o allowed)
  standing_after (Dissociated k) allowed = omega arith
  standing_after (Closed k) allowed = omega (arith, count_closed m r f stands refl k (closed_empty m k allowed))

  pub live_after : (e : Entry) → Allowed m e → live_count (after m e) f + one_if (kills_of m f e) ≡ live_count m f
  live_after (Open c k d a) allowed = omega (arith, count_unless m r f is_live refl (with_file m k (opened c d)) (refusal_in a) refl)
  live_after (Enter c k request a) allowed = omega (arith, count_unless m r f is_live refl (record m { calls = at_place m.calls c (put_call (entered k request)) }) (refusal_in a) refl)
  live_after (Step c w o found a) allowed =
      let t = IsTurn-allowed m c w o found a allowed in
      omega (arith, count_turn m r f is_live refl c t.call t.is (step_apart c t.call t.is) a (after m (Step c w o found a)) t.turn)
  live_after (Unplug d) allowed = omega arith
  live_after (Tear k by) allowed = omega arith
  live_after (Kill o) allowed = live_killed o (killed m o r allowed)
  live_after (Gone o kept) allowed = omega (arith, live_gone o (gone m o allowed))
  live_after (Dissociated k) allowed = omega arith
  live_after (Closed k) allowed = omega (arith, count_closed m r f is_live refl k (closed_empty m k allowed))

pub releases_count : ReleasesCount
releases_count h e f legal allowed swept =
    let m = state_of h in
    let behind : standing_count (state_of (h ++ e ∷ [])) f ≡ standing_count (after m e) f = ap (λ s. standing_count s f) (state_from-snoc start h e) in
    omega (arith, behind, standing_after m (Reached-state_of h legal) f swept e allowed)

pub kills_count : KillsCount
kills_count h e f legal allowed swept =
    let m = state_of h in
    let behind : live_count (state_of (h ++ e ∷ [])) f ≡ live_count (after m e) f = ap (λ s. live_count s f) (state_from-snoc start h e) in
    omega (arith, behind, live_after m (Reached-state_of h legal) f swept e allowed)
