-- A turn keeps a reached state.
use Rattle.std.proofs.Common.{◌≡◌, ◌≢◌, ℕ, zero, suc, ◌+◌, Bool, true, false, List, [], ◌∷◌, ◌++◌, Option, Some, None, length, replicate, map, refl, ap, sym, ◌∙◌, subst, arith, inl, inr, ◌⊎◌, ⊎_elim}
use Rattle.std.specs.Prelude.{not, ◌||◌, ◌&&◌, ◌==◌, slice_get, if◌then◌else◌}
use Rattle.std.specs.List.{list_any, enumerate_from}
use Rattle.std.specs.Cmp.Derive.{both_true}
use Rattle.std.proofs.lemmas.Option.{none-some, same_Some}
use Rattle.std.proofs.lemmas.Bool.{and_parts, or_parts, or_left, eqb-true, eq-eqb, ne_eqb}
use Rattle.uv_num.specs.declared.errno.Errno.TheVariants.{Busy, Inval}
use Rattle.uv_num.specs.declared.kind.Kind.{Kind}
use Rattle.uv_num.specs.declared.request.Act as request
use Rattle.uv_num.specs.declared.request.Act.TheVariants.{Modify, Query, Bind, Unbind, Async}
use Rattle.uv_num.specs.declared.request.Ask.{Ask}
use Rattle.uv_num.specs.declared.request.Role.{Role}
use Rattle.uv_num.specs.declared.request.Role.TheVariants.{Creates, Destroys}
use Rattle.uv_num.proofs.PlaceLaws.{length-at_place}
use Rattle.uv_machine.specs.declared.entry.Word.{Word}
use Rattle.uv_machine.specs.declared.entry.Word.TheVariants.{Reserve, Look, Make, Commit, Act, Lock, Check, Finish, Abort, Free, Exit}
use Rattle.uv_machine.specs.declared.entry.Answer.{Answer}
use Rattle.uv_machine.specs.declared.object.Object.{Object}
use Rattle.uv_machine.specs.declared.object.Change.{Change}
use Rattle.uv_machine.specs.declared.object.Change.TheVariants.{ToLive, ToDoomed, ToBound}
use Rattle.uv_machine.specs.declared.call.InFlight.{InFlight}
use Rattle.uv_machine.specs.declared.state.State.{State}
use Rattle.uv_machine.specs.Objects.{is_kind, is_made, is_doomed, is_husk, on_object}
use Rattle.uv_machine.specs.Plans.{plan_of, next_word, own_object, acted_on, looks_at, holds, is_the_number, with_refusal, with_number, with_look, with_made, with_outcome, with_lock, without_lock, without_number, without_look, moved_on}
use Rattle.uv_machine.specs.States.{call_of, has_others, holds_beside, is_excluded, is_unplugged, device_of, phase_of, is_quiet, is_tearing, is_fresh, is_removing}
use Rattle.uv_machine.specs.Outside.{may_sweep}
use Rattle.uv_machine.specs.Effects.{act, made_outcome, finish, not_with_id, binding_of}
use Rattle.uv_machine.specs.Reached.{IsIn, IsPhased, StandAlone, IsHeldFor, IsLeft, Reached}
use Rattle.uv_machine.proofs.Members.{IsIn-map, Passes, Passes-filter}
use Rattle.uv_machine.proofs.Planned.{InPlan, stands_in_plan, next_word-planned, next_word-closing, next_place-in_plan}
use Rattle.uv_machine.proofs.Turns.{Turn, Made, Checked, object_made, may_refuse}
use Rattle.uv_machine.proofs.Turns.Turn.{Refuses, Reserves, Looks, Makes, Commits, Does, Locks, Checks, Finishes, Aborts, Frees, Leaves}
use Rattle.uv_machine.proofs.OwnCall.{CallsTurn, calls_turn, call_stands, call_of-changed}
use Rattle.uv_machine.proofs.Phased.{looks_in, IsPhased-turn, IsPhasedSlot}
use Rattle.uv_machine.proofs.Changing.{any_ids_and, any_ids_behind, on_object-id, on_object-file, on_object-made, live-made, live-doomed, doomed-doomed, bound-doomed, bound-husk, live-husk, doomed-husk}
use Rattle.uv_machine.proofs.Graph.{in_room}
use Rattle.uv_machine.proofs.Files.{SameFiles, same_files, is_unplugged-same}
use Rattle.uv_machine.proofs.Holding.{finish_objects, graph_turn}
use Rattle.uv_machine.proofs.Keeping.{excluded_by, locks_it, found_at, owns_at_check, owns_at_finish, owns_at_commit, holds_turn}
use Rattle.uv_machine.proofs.Calling.{CallBehind, call_behind, false_unless, quiet_turn, held_as, held_stays, apart_by_word, apart_by_object}

-- Exclusive holds stand alone.

none_beside : (c o n : ℕ) (calls : List (Option InFlight)) (b : ℕ) (k : InFlight) → list_any (holds_beside c o) (enumerate_from n calls) ≡ false → slice_get calls b ≡ Some (Some k) → n + b ≢ c → holds o (Some k) ≡ false
none_beside c o n [] b k none e ne = absurd (none-some _ e)
none_beside c o n (s ∷ calls) zero k none e ne =
    let parts = or_parts (not (n == c) && holds o s) (list_any (holds_beside c o) (enumerate_from (n + 1) calls)) none in
    let apart : (n == c) ≡ false = ne_eqb n c (λ same. ne (omega (arith, same))) in
    let here : (not (n == c) && holds o s) ≡ holds o s = ap (λ v. not v && holds o s) apart in
    ap (holds o) (sym (same_Some s (Some k) e)) ∙ sym here ∙ parts.0
none_beside c o n (s ∷ calls) (suc b) k none e ne =
    let parts = or_parts (not (n == c) && holds o s) (list_any (holds_beside c o) (enumerate_from (n + 1) calls)) none in
    none_beside c o (n + 1) calls b k parts.1 e (λ same. ne (omega (arith, same)))

-- where no other holds the object no call of another does
pub no_others : (m : State) (c o b : ℕ) (k : InFlight) → has_others m c o ≡ false → call_of m b ≡ Some k → c ≢ b → holds o (Some k) ≡ false
no_others m c o b k none is ne = none_beside c o 0 m.calls b k none (call_stands m b k is) (λ same. ne (omega (arith, same)))

pub lock_parts : (same others : Bool) → (if not same then Some Inval else (if others then Some Busy else None)) ≡ None → others ≡ false
lock_parts true true e = absurd (none-some _ (sym e))
lock_parts true false e = refl
lock_parts false others e = absurd (none-some _ (sym e))

pub holds_locked : (o : ℕ) (k : InFlight) → k.locked ≡ Some o → holds o (Some k) ≡ true
holds_locked o k e = or_left (is_the_number o k.locked) (looks_at o k) (locks_it o k.locked e)

pub or_cases : (a b : Bool) → (a || b) ≡ true → (a ≡ true) ⊎ (b ≡ true)
or_cases true b h = inl refl
or_cases false b h = inr h

pub number_is : (o : ℕ) (l : Option ℕ) → is_the_number o l ≡ true → l ≡ Some o
number_is o None h = absurd cc
number_is o (Some n) h = ap (λ (v : ℕ). Some v) (eqb-true n o h)

-- what the actor's call holds after its turn, against the others
pub record AloneOwn (m : State) (c : ℕ) (k : InFlight) : Type 0 where
  pub locks : (o : ℕ) → k.locked ≡ Some o → (b : ℕ) (j : InFlight) → c ≢ b → call_of m b ≡ Some j → holds o (Some j) ≡ false
  pub helds : (o b : ℕ) (j : InFlight) → c ≢ b → call_of m b ≡ Some j → j.locked ≡ Some o → holds o (Some k) ≡ false

module _ (m : State) (r : Reached m) (c : ℕ) (call : InFlight) (is : call_of m c ≡ Some call) where
  -- a call that holds no more than before
  alone_less : (k : InFlight) → ((o : ℕ) → k.locked ≡ Some o → call.locked ≡ Some o) → ((o : ℕ) → looks_at o k ≡ true → looks_at o call ≡ true) → AloneOwn m c k
  alone_less k locked looked = record {
    locks = λ o e b j ne is'. r.alone c b call j o is is' ne (locked o e);
    helds = λ o b j ne is' e.
        false_unless (holds o (Some k))
        (λ h. (
        let none = r.alone b c j call o is' is (λ same. ne (sym same)) e in
        let parts = or_parts (is_the_number o call.locked) (looks_at o call) none in
        ⊎_elim
        (λ own. (let yes = locks_it o call.locked (locked o (number_is o k.locked own)) in let no = parts.0 in cc))
        (λ look. (let yes = looked o look in let no = parts.1 in cc))
        (or_cases (is_the_number o k.locked) (looks_at o k) h)));
  }

  alone_looked : (o : ℕ) → is_excluded m o ≡ false → AloneOwn m c (with_look o call)
  alone_looked o free = record {
    locks = λ u e b j ne is'. r.alone c b call j u is is' ne e;
    helds = λ u b j ne is' e.
        false_unless (holds u (Some (with_look o call)))
        (λ h. (
        let none = r.alone b c j call u is' is (λ same. ne (sym same)) e in
        let parts = or_parts (is_the_number u call.locked) (looks_at u call) none in
        ⊎_elim
        (λ own. (let no = parts.0 in cc))
        (λ look.
        ⊎_elim
        (λ old. (let no = parts.1 in cc))
        (λ new. (let yes : is_excluded m o ≡ true = ap (is_excluded m) new ∙ excluded_by m b j u is' e in cc))
        (any_ids_and u call.looked o look))
        (or_cases (is_the_number u call.locked) (looks_at u (with_look o call)) h)));
  }

  alone_made : (outcome : Answer) → AloneOwn m c (with_made m.made outcome call)
  alone_made outcome = record {
    locks = λ o e b j ne is'. (
        let well = r.holds_well b j is' in
        let same : m.made ≡ o = same_Some m.made o e in
        false_unless (holds o (Some j))
        (λ h. ⊎_elim
        (λ own. (let low = well.locked o (number_is o j.locked own) in omega arith))
        (λ look. (let low = well.looked o look in omega arith))
        (or_cases (is_the_number o j.locked) (looks_at o j) h)));
    helds = λ o b j ne is' e. (
        let none = r.alone b c j call o is' is (λ same. ne (sym same)) e in
        let parts = or_parts (is_the_number o call.locked) (looks_at o call) none in
        let low = (r.holds_well b j is').locked o e in
        false_unless (holds o (Some (with_made m.made outcome call)))
        (λ h. ⊎_elim
        (λ own. (let same = eqb-true m.made o own in omega arith))
        (λ look. (let no = parts.1 in cc))
        (or_cases (m.made == o) (looks_at o call) h)));
  }

  alone_locked : (o : ℕ) → has_others m c o ≡ false → AloneOwn m c (with_lock o call)
  alone_locked o none = record {
    locks = λ u e b j ne is'. (
        let same : o ≡ u = same_Some o u e in
        ap (λ v. holds v (Some j)) (sym same) ∙ no_others m c o b j none is' ne);
    helds = λ u b j ne is' e. (
        let others = r.alone b c j call u is' is (λ same. ne (sym same)) e in
        let parts = or_parts (is_the_number u call.locked) (looks_at u call) others in
        false_unless (holds u (Some (with_lock o call)))
        (λ h. ⊎_elim
        (λ own. (
        let same = eqb-true o u own in
        let no : holds u (Some j) ≡ false = ap (λ v. holds v (Some j)) (sym same) ∙ no_others m c o b j none is' ne in
        let yes = holds_locked u j e in
        cc))
        (λ look. (let no = parts.1 in cc))
        (or_cases (o == u) (looks_at u call) h)));
  }

  alone_as : (k k' : InFlight) → Some k' ≡ Some k → AloneOwn m c k' → AloneOwn m c k
  alone_as k k' e h = let P : InFlight → Type 0 = λ v. AloneOwn m c v in subst P (same_Some k' k e) h

  alone_own : (a : Answer) (m' : State) (t : Turn m c call a m') (k : InFlight) → (calls_turn m c call a m' t).change (Some call) ≡ Some k → AloneOwn m c k
  alone_own a m' (Refuses t) k e = alone_as k (with_refusal t.errno call) e (alone_less (with_refusal t.errno call) (λ o h. h) (λ o h. h))
  alone_own a m' (Reserves t) k e = alone_as k (with_number (Some t.number) call) e (alone_less (with_number (Some t.number) call) (λ o h. h) (λ o h. h))
  alone_own a m' (Looks t) k e =
      let f = found_at m r c call is t.plan t.fine in
      let P : ℕ → Type 0 = λ o. AloneOwn m c (with_look o call) in
      alone_as k _ e (subst P (sym f.object) (alone_looked f.item.id f.free))
  alone_own a m' (Makes t) k e = alone_as k _ e (alone_made (made_outcome (object_made m call t.kind t.index)))
  alone_own a m' (Commits t) k e = alone_as k (without_lock call) e (alone_less (without_lock call) (λ o h. absurd (none-some o h)) (λ o h. h))
  alone_own a m' (Does t) k e = alone_as k (with_outcome a call) e (alone_less (with_outcome a call) (λ o h. h) (λ o h. h))
  alone_own a m' (Locks t) k e =
      alone_as k (with_lock t.item.id call) e (alone_locked t.item.id (lock_parts (is_kind t.item.kind t.asked.kind) (has_others m c t.item.id) t.fine))
  alone_own a m' (Checks t) k e = alone_as k (moved_on call) e (alone_less (moved_on call) (λ o h. h) (λ o h. h))
  alone_own a m' (Finishes t) k e = alone_as k (without_lock call) e (alone_less (without_lock call) (λ o h. absurd (none-some o h)) (λ o h. h))
  alone_own a m' (Aborts t) k e = alone_as k (without_number call) e (alone_less (without_number call) (λ o h. h) (λ o h. h))
  alone_own a m' (Frees t) k e = alone_as k (without_look call) e (alone_less (without_look call) (λ o h. h) (λ o h. any_ids_behind o call.looked h))
  alone_own a m' (Leaves t) k e = absurd (none-some k e)

  alone_by : (slot : Option InFlight) → ((k : InFlight) → slot ≡ Some k → AloneOwn m c k) → (a b : ℕ) (j k : InFlight) (o : ℕ) → CallBehind m c a slot j → CallBehind m c b slot k → a ≢ b → j.locked ≡ Some o → holds o (Some k) ≡ false
  alone_by slot own a b j k o (CallBehind.IsOwn e is') (CallBehind.IsOwn e2 is2) ne locked = absurd (ne (sym e ∙ e2))
  alone_by slot own a b j k o (CallBehind.IsOwn e is') (CallBehind.IsOther ne2 is2) ne locked = (own j is').locks o locked b k ne2 is2
  alone_by slot own a b j k o (CallBehind.IsOther ne1 is') (CallBehind.IsOwn e2 is2) ne locked = (own k is2).helds o a j ne1 is' locked
  alone_by slot own a b j k o (CallBehind.IsOther ne1 is') (CallBehind.IsOther ne2 is2) ne locked = r.alone a b j k o is' is2 ne locked

  alone_turn : (a : Answer) (m' : State) → Turn m c call a m' → StandAlone m'
  alone_turn a m' t x y j k o is' is2 ne locked =
      let kt = calls_turn m c call a m' t in
      alone_by (kt.change (Some call)) (alone_own a m' t) x y j k o (call_behind m m' c call kt.change is kt.calls x j is') (call_behind m m' c call kt.change is kt.calls y k is2) ne locked

  -- Objects that are to be committed or finished.

  module _ (a : Answer) (m' : State) (t : Turn m c call a m') where
    kt : CallsTurn m c call m'
    kt = calls_turn m c call a m' t

    files : SameFiles m m'
    files = same_files m c call a m' t

    swept_stays : (f : ℕ) → may_sweep m f ≡ true → may_sweep m' f ≡ true
    swept_stays f swept =
        let parts = and_parts (is_tearing (phase_of m f)) (is_quiet m f) swept in
        both_true (ap is_tearing (files.phases f) ∙ parts.0) (quiet_turn m m' c call f is kt parts.1)

    left_stays : (f : ℕ) → IsLeft m f → IsLeft m' f
    left_stays f l = record {
      opened = ap is_fresh (files.phases f) ∙ l.opened;
      gone = is_unplugged-same m m' files.plugged (device_of m' f) ∙ ap (is_unplugged m) (files.devices f) ∙ l.gone;
    }

    stays : (v w : Word) (x : Object) → next_word call ≡ v → v ≢ w → IsHeldFor m w x → IsHeldFor m' w x
    stays v w x word ne h = held_stays m m' c kt.change kt.calls w x (apart_by_word m c call v w x is word ne) h

    stays_by : (o : ℕ) (w : Word) (x : Object) → call.locked ≡ Some o → o ≢ x.id → IsHeldFor m w x → IsHeldFor m' w x
    stays_by o w x locked ne h = held_stays m m' c kt.change kt.calls w x (apart_by_object m c call o w x is locked ne) h

    making_old : (v : Word) → next_word call ≡ v → v ≢ Commit → (x : Object) → IsIn x m.objects → is_made x.phase ≡ true → IsHeldFor m' Commit x
    making_old v word ne x k h = stays v Commit x word ne (r.making x k h)

    ending_as : (x : Object) → (IsHeldFor m Finish x → IsHeldFor m' Finish x) → IsIn x m.objects → is_doomed x.phase ≡ true → IsHeldFor m' Finish x ⊎ (may_sweep m' x.file ≡ true)
    ending_as x held k h = ⊎_elim (λ e. inl (held e)) (λ e. inr (swept_stays x.file e)) (r.ending x k h)

    ending_old : (v : Word) → next_word call ≡ v → v ≢ Finish → (x : Object) → IsIn x m.objects → is_doomed x.phase ≡ true → IsHeldFor m' Finish x ⊎ (may_sweep m' x.file ≡ true)
    ending_old v word ne x k h = ending_as x (stays v Finish x word ne) k h

    husk_old : (x : Object) → IsIn x m.objects → is_husk x.phase ≡ true → (may_sweep m' x.file ≡ true) ⊎ IsLeft m' x.file
    husk_old x k h = ⊎_elim (λ e. inl (swept_stays x.file e)) (λ e. inr (left_stays x.file e)) (r.husks x k h)

    -- the objects after a change
    making_map : (o : ℕ) (change : Change) (v : Word) → next_word call ≡ v → v ≢ Commit → (y : Object) → IsIn y (map (on_object o change) m.objects) → is_made y.phase ≡ true → IsHeldFor m' Commit y
    making_map o change v word ne y k h =
        let from = IsIn-map (on_object o change) y m.objects k in
        let x = from.item in
        let made : is_made x.phase ≡ true = on_object-made o change x (sym (ap (λ (z : Object). is_made z.phase) from.gives) ∙ h) in
        held_as m' Commit x y (ap (λ (z : Object). z.id) from.gives ∙ on_object-id o change x) (ap (λ (z : Object). z.file) from.gives ∙ on_object-file o change x) (making_old v word ne x from.within made)

    ending_to : (x y : Object) → y.id ≡ x.id → y.file ≡ x.file → IsHeldFor m' Finish x ⊎ (may_sweep m' x.file ≡ true) → IsHeldFor m' Finish y ⊎ (may_sweep m' y.file ≡ true)
    ending_to x y id file (inl h) = inl (held_as m' Finish x y id file h)
    ending_to x y id file (inr h) = inr (ap (may_sweep m') file ∙ h)

    ending_map : (o : ℕ) (change : Change) (v : Word) → next_word call ≡ v → v ≢ Finish → ((x : Object) → is_doomed (on_object o change x).phase ≡ true → is_doomed x.phase ≡ true) → (y : Object) → IsIn y (map (on_object o change) m.objects) → is_doomed y.phase ≡ true → IsHeldFor m' Finish y ⊎ (may_sweep m' y.file ≡ true)
    ending_map o change v word ne before y k h =
        let from = IsIn-map (on_object o change) y m.objects k in
        let x = from.item in
        let doomed : is_doomed x.phase ≡ true = before x (sym (ap (λ (z : Object). is_doomed z.phase) from.gives) ∙ h) in
        ending_to x y (ap (λ (z : Object). z.id) from.gives ∙ on_object-id o change x) (ap (λ (z : Object). z.file) from.gives ∙ on_object-file o change x) (ending_old v word ne x from.within doomed)

    husk_to : (x y : Object) → y.file ≡ x.file → (may_sweep m' x.file ≡ true) ⊎ IsLeft m' x.file → (may_sweep m' y.file ≡ true) ⊎ IsLeft m' y.file
    husk_to x y file (inl h) = inl (ap (may_sweep m') file ∙ h)
    husk_to x y file (inr h) = inr (let P : ℕ → Type 0 = λ f. IsLeft m' f in subst P (sym file) h)

    husk_map : (o : ℕ) (change : Change) → ((x : Object) → is_husk (on_object o change x).phase ≡ true → is_husk x.phase ≡ true) → (y : Object) → IsIn y (map (on_object o change) m.objects) → is_husk y.phase ≡ true → (may_sweep m' y.file ≡ true) ⊎ IsLeft m' y.file
    husk_map o change before y k h =
        let from = IsIn-map (on_object o change) y m.objects k in
        let x = from.item in
        husk_to x y (ap (λ (z : Object). z.file) from.gives ∙ on_object-file o change x) (husk_old x from.within (before x (sym (ap (λ (z : Object). is_husk z.phase) from.gives) ∙ h)))

-- The words after a Make and a Check.

behind_looks : (ys : List Word) (n p k : ℕ) → p ≡ n + k → slice_get (replicate n Look ++ ys) p ≡ slice_get ys k
behind_looks ys zero p k e = ap (slice_get ys) (omega (arith, e))
behind_looks ys (suc n) zero k e = absurd (omega (arith, e))
behind_looks ys (suc n) (suc p) k e = behind_looks ys n p k (omega (arith, e))

pub commits_next : (kind : Kind) (n p : ℕ) → p ≡ n + 2 → slice_get (plan_of (Creates kind) n) p ≡ Some Commit
commits_next kind n zero e = absurd (omega (arith, e))
commits_next kind n (suc p) e = behind_looks (Make ∷ Commit ∷ []) n p 1 (omega (arith, e))

pub finishes_next : (asked : Ask) (n p : ℕ) → p ≡ 2 → slice_get (plan_of (Destroys asked) n) p ≡ Some Finish
finishes_next asked n p e = ap (slice_get (plan_of (Destroys asked) n)) e

module _ (m : State) (r : Reached m) (c : ℕ) (call : InFlight) (is : call_of m c ≡ Some call) where
  in_as : (m' n : State) (y : Object) → m' ≡ n → IsIn y m'.objects → IsIn y n.objects
  in_as m' n y e h = let P : State → Type 0 = λ s. IsIn y s.objects in subst P e h

  planned_word : (w : Word) → InPlan call w → next_word call ≡ w
  planned_word w plan = next_word-planned call w plan.fine plan.planned

  own_behind : (a : Answer) (m' : State) (t : Turn m c call a m') → call_of m' c ≡ (calls_turn m c call a m' t).change (Some call)
  own_behind a m' t = let kt = calls_turn m c call a m' t in call_of-changed m m' c kt.change call kt.calls is

  refused_apart : (w v : Word) → may_refuse w ≡ true → may_refuse v ≡ false → w ≢ v
  refused_apart w v may never e = let same : may_refuse w ≡ may_refuse v = ap may_refuse e in cc

  made_held : (a : Answer) (m' : State) (t : Made m c call m') (y : Object) → y ≡ object_made m call t.kind t.index → IsHeldFor m' Commit y
  made_held a m' t y new =
      let x = object_made m call t.kind t.index in
      let k = with_made x.id (made_outcome x) call in
      let s = stands_in_plan call Make t.plan in
      let next = next_place-in_plan call Make t.plan in
      let P : Role → Type 0 = λ v. slice_get (plan_of v (looks_in call)) k.place ≡ Some Commit in
      let P' : Object → Type 0 = λ v. IsHeldFor m' Commit v in
      subst P' (sym new) (record {
        actor = c;
        call = k;
        is = own_behind a m' (Makes t);
        word = next_word-planned k Commit t.plan.fine (subst P (sym s.creates) (commits_next s.kind (looks_in call) k.place (omega (arith, next, s.at))));
        own = refl;
        same = refl;
      })

  making_act : (a : Answer) (m' : State) (t : Turn m c call a m') (what : request.Act) → next_word call ≡ Act → (y : Object) → IsIn y (act m c call a what).objects → is_made y.phase ≡ true → IsHeldFor m' Commit y
  making_act a m' t (Modify to attrs) word y k h = making_old m r c call is a m' t Act word (λ e. cc) y k h
  making_act a m' t Query word y k h = making_old m r c call is a m' t Act word (λ e. cc) y k h
  making_act a m' t (Bind offset long access) word y k h = making_map m r c call is a m' t (acted_on call) (ToBound (Some (binding_of call offset long access))) Act word (λ e. cc) y k h
  making_act a m' t (Unbind offset long access) word y k h = making_map m r c call is a m' t (acted_on call) (ToBound None) Act word (λ e. cc) y k h
  making_act a m' t Async word y k h = making_old m r c call is a m' t Act word (λ e. cc) y k h

  committed_making : (a : Answer) (m' : State) (t : Turn m c call a m') → InPlan call Commit → (y : Object) → IsIn y (map (on_object (own_object call) ToLive) m.objects) → is_made y.phase ≡ true → IsHeldFor m' Commit y
  committed_making a m' t plan y k h =
      let o = own_object call in
      let from = IsIn-map (on_object o ToLive) y m.objects k in
      let x = from.item in
      let made : is_made (on_object o ToLive x).phase ≡ true = sym (ap (λ (z : Object). is_made z.phase) from.gives) ∙ h in
      let ne : o ≢ x.id = λ e. live-made o x made (sym e) in
      held_as m' Commit x y (ap (λ (z : Object). z.id) from.gives ∙ on_object-id o ToLive x) (ap (λ (z : Object). z.file) from.gives ∙ on_object-file o ToLive x)
      (stays_by m r c call is a m' t o Commit x (owns_at_commit m r c call is plan) ne (r.making x from.within (on_object-made o ToLive x made)))

  not_with_id-apart : (o : ℕ) (x : Object) → not_with_id o x ≡ true → o ≢ x.id
  not_with_id-apart o x h e = let a : (x.id == o) ≡ true = eq-eqb x.id o (sym e) in let b : not_with_id o x ≡ false = ap not a in cc

  finished_in : (y : Object) (m' : State) → m' ≡ finish m c (own_object call) → IsIn y m'.objects → Passes (not_with_id (own_object call)) y m.objects
  finished_in y m' e h = Passes-filter (not_with_id (own_object call)) y m.objects (let P : List Object → Type 0 = λ v. IsIn y v in subst P (finish_objects m c (own_object call)) (in_as m' _ y e h))

  making_turn : (a : Answer) (m' : State) → Turn m c call a m' → (y : Object) → IsIn y m'.objects → is_made y.phase ≡ true → IsHeldFor m' Commit y
  making_turn a m' (Refuses t) y k h = making_old m r c call is a m' (Refuses t) t.word (planned_word t.word t.plan) (refused_apart t.word Commit t.may refl) y (in_as m' _ y t.gives k) h
  making_turn a m' (Reserves t) y k h = making_old m r c call is a m' (Reserves t) Reserve (planned_word Reserve t.plan) (λ e. cc) y (in_as m' _ y t.gives k) h
  making_turn a m' (Looks t) y k h = making_old m r c call is a m' (Looks t) Look (planned_word Look t.plan) (λ e. cc) y (in_as m' _ y t.gives k) h
  making_turn a m' (Makes t) y k h =
      ⊎_elim
      (λ old. making_old m r c call is a m' (Makes t) Make (planned_word Make t.plan) (λ e. cc) y old h)
      (λ new. made_held a m' t y new)
      (in_room y (object_made m call t.kind t.index) m.objects (in_as m' _ y t.gives k))
  making_turn a m' (Commits t) y k h = committed_making a m' (Commits t) t.plan y (in_as m' _ y t.gives k) h
  making_turn a m' (Does t) y k h = making_act a m' (Does t) t.what (planned_word Act t.plan) y (in_as m' _ y t.gives k) h
  making_turn a m' (Locks t) y k h = making_old m r c call is a m' (Locks t) Lock (planned_word Lock t.plan) (λ e. cc) y (in_as m' _ y t.gives k) h
  making_turn a m' (Checks t) y k h = making_map m r c call is a m' (Checks t) (own_object call) ToDoomed Check (planned_word Check t.plan) (λ e. cc) y (in_as m' _ y t.gives k) h
  making_turn a m' (Finishes t) y k h = making_old m r c call is a m' (Finishes t) Finish (planned_word Finish t.plan) (λ e. cc) y (finished_in y m' t.gives k).within h
  making_turn a m' (Aborts t) y k h = making_old m r c call is a m' (Aborts t) Abort (next_word-closing call t.ends ∙ t.word) (λ e. cc) y (in_as m' _ y t.gives k) h
  making_turn a m' (Frees t) y k h = making_old m r c call is a m' (Frees t) Free (next_word-closing call t.ends ∙ t.word) (λ e. cc) y (in_as m' _ y t.gives k) h
  making_turn a m' (Leaves t) y k h = making_old m r c call is a m' (Leaves t) Exit (next_word-closing call t.ends ∙ t.word) (λ e. cc) y (in_as m' _ y t.gives k) h

  -- doomed objects

  ending_act : (a : Answer) (m' : State) (t : Turn m c call a m') (what : request.Act) → next_word call ≡ Act → (y : Object) → IsIn y (act m c call a what).objects → is_doomed y.phase ≡ true → IsHeldFor m' Finish y ⊎ (may_sweep m' y.file ≡ true)
  ending_act a m' t (Modify to attrs) word y k h = ending_old m r c call is a m' t Act word (λ e. cc) y k h
  ending_act a m' t Query word y k h = ending_old m r c call is a m' t Act word (λ e. cc) y k h
  ending_act a m' t (Bind offset long access) word y k h =
      let b = Some (binding_of call offset long access) in
      ending_map m r c call is a m' t (acted_on call) (ToBound b) Act word (λ e. cc) (λ x d. bound-doomed (acted_on call) x b d) y k h
  ending_act a m' t (Unbind offset long access) word y k h = ending_map m r c call is a m' t (acted_on call) (ToBound None) Act word (λ e. cc) (λ x d. bound-doomed (acted_on call) x None d) y k h
  ending_act a m' t Async word y k h = ending_old m r c call is a m' t Act word (λ e. cc) y k h

  checked_held : (a : Answer) (m' : State) (t : Checked m c call m') (x : Object) → IsIn x m.objects → x.id ≡ own_object call → IsHeldFor m' Finish x
  checked_held a m' t x k e =
      let s = stands_in_plan call Check t.plan in
      let next = next_place-in_plan call Check t.plan in
      let owns = owns_at_check m r c call is t.plan in
      let j = moved_on call in
      let P : Role → Type 0 = λ v. slice_get (plan_of v (looks_in call)) j.place ≡ Some Finish in
      record {
        actor = c;
        call = j;
        is = own_behind a m' (Checks t);
        word = next_word-planned j Finish t.plan.fine (subst P (sym s.destroys) (finishes_next s.asked (looks_in call) j.place (omega (arith, next, s.at))));
        own = owns ∙ ap (λ (n : ℕ). Some n) (sym e);
        same = sym ((r.holds_well c call is).placed (own_object call) owns x k e);
      }

  checked_ending : (a : Answer) (m' : State) (t : Checked m c call m') (y : Object) → IsIn y (map (on_object (own_object call) ToDoomed) m.objects) → is_doomed y.phase ≡ true → IsHeldFor m' Finish y ⊎ (may_sweep m' y.file ≡ true)
  checked_ending a m' t y k h =
      let o = own_object call in
      let from = IsIn-map (on_object o ToDoomed) y m.objects k in
      let x = from.item in
      let doomed : is_doomed (on_object o ToDoomed x).phase ≡ true = sym (ap (λ (z : Object). is_doomed z.phase) from.gives) ∙ h in
      ending_to m r c call is a m' (Checks t) x y (ap (λ (z : Object). z.id) from.gives ∙ on_object-id o ToDoomed x) (ap (λ (z : Object). z.file) from.gives ∙ on_object-file o ToDoomed x)
      (⊎_elim
      (λ e. inl (checked_held a m' t x from.within e))
      (λ old. ending_old m r c call is a m' (Checks t) Check (planned_word Check t.plan) (λ e. cc) x from.within old)
      (doomed-doomed o x doomed))

  ending_turn : (a : Answer) (m' : State) → Turn m c call a m' → (y : Object) → IsIn y m'.objects → is_doomed y.phase ≡ true → IsHeldFor m' Finish y ⊎ (may_sweep m' y.file ≡ true)
  ending_turn a m' (Refuses t) y k h = ending_old m r c call is a m' (Refuses t) t.word (planned_word t.word t.plan) (refused_apart t.word Finish t.may refl) y (in_as m' _ y t.gives k) h
  ending_turn a m' (Reserves t) y k h = ending_old m r c call is a m' (Reserves t) Reserve (planned_word Reserve t.plan) (λ e. cc) y (in_as m' _ y t.gives k) h
  ending_turn a m' (Looks t) y k h = ending_old m r c call is a m' (Looks t) Look (planned_word Look t.plan) (λ e. cc) y (in_as m' _ y t.gives k) h
  ending_turn a m' (Makes t) y k h =
      ⊎_elim
      (λ old. ending_old m r c call is a m' (Makes t) Make (planned_word Make t.plan) (λ e. cc) y old h)
      (λ new. absurd (let no : is_doomed y.phase ≡ false = ap (λ (z : Object). is_doomed z.phase) new in cc))
      (in_room y (object_made m call t.kind t.index) m.objects (in_as m' _ y t.gives k))
  ending_turn a m' (Commits t) y k h = ending_map m r c call is a m' (Commits t) (own_object call) ToLive Commit (planned_word Commit t.plan) (λ e. cc) (λ x d. live-doomed (own_object call) x d) y (in_as m' _ y t.gives k) h
  ending_turn a m' (Does t) y k h = ending_act a m' (Does t) t.what (planned_word Act t.plan) y (in_as m' _ y t.gives k) h
  ending_turn a m' (Locks t) y k h = ending_old m r c call is a m' (Locks t) Lock (planned_word Lock t.plan) (λ e. cc) y (in_as m' _ y t.gives k) h
  ending_turn a m' (Checks t) y k h = checked_ending a m' t y (in_as m' _ y t.gives k) h
  ending_turn a m' (Finishes t) y k h =
      let p = finished_in y m' t.gives k in
      ending_as m r c call is a m' (Finishes t) y (stays_by m r c call is a m' (Finishes t) (own_object call) Finish y (owns_at_finish m r c call is t.plan) (not_with_id-apart (own_object call) y p.test)) p.within h
  ending_turn a m' (Aborts t) y k h = ending_old m r c call is a m' (Aborts t) Abort (next_word-closing call t.ends ∙ t.word) (λ e. cc) y (in_as m' _ y t.gives k) h
  ending_turn a m' (Frees t) y k h = ending_old m r c call is a m' (Frees t) Free (next_word-closing call t.ends ∙ t.word) (λ e. cc) y (in_as m' _ y t.gives k) h
  ending_turn a m' (Leaves t) y k h = ending_old m r c call is a m' (Leaves t) Exit (next_word-closing call t.ends ∙ t.word) (λ e. cc) y (in_as m' _ y t.gives k) h

  -- husks

  husk_act : (a : Answer) (m' : State) (t : Turn m c call a m') (what : request.Act) → (y : Object) → IsIn y (act m c call a what).objects → is_husk y.phase ≡ true → (may_sweep m' y.file ≡ true) ⊎ IsLeft m' y.file
  husk_act a m' t (Modify to attrs) y k h = husk_old m r c call is a m' t y k h
  husk_act a m' t Query y k h = husk_old m r c call is a m' t y k h
  husk_act a m' t (Bind offset long access) y k h =
      let b = Some (binding_of call offset long access) in
      husk_map m r c call is a m' t (acted_on call) (ToBound b) (λ x d. bound-husk (acted_on call) x b d) y k h
  husk_act a m' t (Unbind offset long access) y k h = husk_map m r c call is a m' t (acted_on call) (ToBound None) (λ x d. bound-husk (acted_on call) x None d) y k h
  husk_act a m' t Async y k h = husk_old m r c call is a m' t y k h

  husk_turn : (a : Answer) (m' : State) → Turn m c call a m' → (y : Object) → IsIn y m'.objects → is_husk y.phase ≡ true → (may_sweep m' y.file ≡ true) ⊎ IsLeft m' y.file
  husk_turn a m' (Refuses t) y k h = husk_old m r c call is a m' (Refuses t) y (in_as m' _ y t.gives k) h
  husk_turn a m' (Reserves t) y k h = husk_old m r c call is a m' (Reserves t) y (in_as m' _ y t.gives k) h
  husk_turn a m' (Looks t) y k h = husk_old m r c call is a m' (Looks t) y (in_as m' _ y t.gives k) h
  husk_turn a m' (Makes t) y k h =
      ⊎_elim
      (λ old. husk_old m r c call is a m' (Makes t) y old h)
      (λ new. absurd (let no : is_husk y.phase ≡ false = ap (λ (z : Object). is_husk z.phase) new in cc))
      (in_room y (object_made m call t.kind t.index) m.objects (in_as m' _ y t.gives k))
  husk_turn a m' (Commits t) y k h = husk_map m r c call is a m' (Commits t) (own_object call) ToLive (λ x d. live-husk (own_object call) x d) y (in_as m' _ y t.gives k) h
  husk_turn a m' (Does t) y k h = husk_act a m' (Does t) t.what y (in_as m' _ y t.gives k) h
  husk_turn a m' (Locks t) y k h = husk_old m r c call is a m' (Locks t) y (in_as m' _ y t.gives k) h
  husk_turn a m' (Checks t) y k h = husk_map m r c call is a m' (Checks t) (own_object call) ToDoomed (λ x d. doomed-husk (own_object call) x d) y (in_as m' _ y t.gives k) h
  husk_turn a m' (Finishes t) y k h = husk_old m r c call is a m' (Finishes t) y (finished_in y m' t.gives k).within h
  husk_turn a m' (Aborts t) y k h = husk_old m r c call is a m' (Aborts t) y (in_as m' _ y t.gives k) h
  husk_turn a m' (Frees t) y k h = husk_old m r c call is a m' (Frees t) y (in_as m' _ y t.gives k) h
  husk_turn a m' (Leaves t) y k h = husk_old m r c call is a m' (Leaves t) y (in_as m' _ y t.gives k) h

  -- All of it.

  phased_by : (slot : Option InFlight) (k : InFlight) → slot ≡ Some k → IsPhasedSlot slot → IsPhased k
  phased_by slot k e p = let P : Option InFlight → Type 0 = λ s. IsPhasedSlot s in subst P e p

  phased_behind : (a : Answer) (m' : State) (t : Turn m c call a m') (b : ℕ) (k : InFlight) → CallBehind m c b ((calls_turn m c call a m' t).change (Some call)) k → IsPhased k
  phased_behind a m' t b k (CallBehind.IsOwn same e) =
      let kt = calls_turn m c call a m' t in
      phased_by (kt.change (Some call)) k e (IsPhased-turn call (kt.change (Some call)) (r.phased c call is) kt.own)
  phased_behind a m' t b k (CallBehind.IsOther ne e) = r.phased b k e

  pub Reached-turn : (a : Answer) (m' : State) → Turn m c call a m' → Reached m'
  Reached-turn a m' t =
      let files = same_files m c call a m' t in
      let kt = calls_turn m c call a m' t in
      record {
        files = files.count ∙ r.files;
        calls = ap (λ (v : List (Option InFlight)). length v) kt.calls ∙ length-at_place m.calls c kt.change ∙ r.calls;
        phased = λ b k is'. phased_behind a m' t b k (call_behind m m' c call kt.change is kt.calls b k is');
        graph = graph_turn m r c call is a m' t;
        holds_well = holds_turn m r c call is a m' t;
        alone = alone_turn m r c call is a m' t;
        making = making_turn a m' t;
        ending = ending_turn a m' t;
        husks = husk_turn a m' t;
        removing = λ f h. is_unplugged-same m m' files.plugged (device_of m' f) ∙ ap (is_unplugged m) (files.devices f) ∙ r.removing f (sym (ap is_removing (files.phases f)) ∙ h);
      }
