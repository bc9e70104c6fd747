-- The teardown of a file, once no call is in flight.
use Rattle.std.specs.Prelude.{ℕ, Bool, true, false, not, ◌&&◌, ◌≡◌, ◌≢◌, ◌≤◌, ◌<◌, ◌+◌, ◌==◌, List, [], ◌∷◌, ◌++◌, Option, None, Some, IsSome, refl, map, find, reverse, slice_get, option_map, if◌then◌else◌}
use Rattle.std.specs.List.{list_any}
use Rattle.std.specs.Cmp.Derive.{both_true}
use Rattle.std.proofs.Common.{zero, suc, count_by, ap, sym, subst, ◌∙◌, ⊎_elim, arith}
use Rattle.std.proofs.lemmas.Bool.{and_parts, eqb-true, eq-eqb, ne_eqb}
use Rattle.uv_num.specs.declared.kind.Kind.{Kind}
use Rattle.uv_num.specs.declared.kind.Kind.TheVariants.{Pd, Channel, Cq, Qp, Srq, Ah, Mr, Mw}
use Rattle.uv_num.specs.Kind.{kind_rank}
use Rattle.uv_num.specs.declared.limits.TheConstants.{DRIVER}
use Rattle.uv_machine.specs.declared.entry.Entry.{Entry}
use Rattle.uv_machine.specs.declared.entry.Entry.TheVariants.{Tear, Kill, Gone}
use Rattle.uv_machine.specs.declared.entry.Word.{Word}
use Rattle.uv_machine.specs.declared.entry.Word.TheVariants.{Commit, Finish}
use Rattle.uv_machine.specs.declared.object.Phase.{Phase}
use Rattle.uv_machine.specs.declared.object.Phase.TheVariants as phase
use Rattle.uv_machine.specs.declared.object.Object.{Object}
use Rattle.uv_machine.specs.declared.object.Change.TheVariants.{ToDoomed, ToHusk}
use Rattle.uv_machine.specs.declared.file.File.{File}
use Rattle.uv_machine.specs.declared.file.FilePhase.{FilePhase}
use Rattle.uv_machine.specs.declared.file.FilePhase.TheVariants as file
use Rattle.uv_machine.specs.declared.state.State.{State}
use Rattle.uv_machine.specs.Objects.{has_id, in_file, is_live, is_doomed, is_husk, is_live_in, is_doomed_in, is_standing_in, uses_object, doomed_from, with_change, on_object}
use Rattle.uv_machine.specs.States.{object_with, phase_in, phase_of, device_of, is_unplugged, is_quiet, is_fresh, is_open, is_callable, is_tearing, is_removing, is_closing, has_users, has_doomed, has_standing, can_go, newest_free, start}
use Rattle.uv_machine.specs.Effects.{with_file, in_phase, with_object, with_burial, gone_from}
use Rattle.uv_machine.specs.Outside.{may_sweep, is_object, may_kill_in, may_kill_object, may_kill, may_go_object, may_go, may_dissociate, may_close}
use Rattle.uv_machine.specs.Histories.{Allowed, after, state_of, IsLegal}
use Rattle.uv_machine.specs.Laws.{IsSwept, standing_count}
use Rattle.uv_machine.specs.Reached.{IsIn, IsAbove, IsHeldFor, Reached}
use Rattle.uv_machine.proofs.GoingOn.{state_from-snoc, IsLegalFrom-snoc}
use Rattle.uv_num.proofs.PlaceLaws.{slice_get-at_place_same}
use Rattle.uv_machine.proofs.Members.{IsIn-reverse, IsIn-from_reverse, IsIn-into_map, IsIn-map, Passes, Passes-find, fails_find, SomePasses-list_any, list_any-none, fails_any, count_by-map-le, count_by-map-lt}
use Rattle.uv_machine.proofs.Calling.{quiet_none, false_unless}
use Rattle.uv_machine.proofs.Keeping.{phase_cases}
use Rattle.uv_machine.proofs.Changing.{changed_if, on_object-id, on_object-file, husk-doomed, doomed-doomed}
use Rattle.uv_machine.proofs.Graph.{find_rising, uses_nothing, gains_doomed, IsGraph-map}
use Rattle.uv_machine.proofs.Reaching.{Reached-state_of}

and_left : (a b : Bool) → (a && b) ≡ true → a ≡ true
and_left a b h = (and_parts a b h).0

and_right : (a b : Bool) → (a && b) ≡ true → b ≡ true
and_right a b h = (and_parts a b h).1

-- What is known of a file without calls.

module _ (m : State) (f : ℕ) (quiet : is_quiet m f ≡ true) where
  held_by_none : (w : Word) (x : Object) → x.file ≡ f → IsHeldFor m w x → ⊥
  held_by_none w x of_it h = quiet_none m h.actor f h.call quiet h.is (h.same ∙ of_it)

-- The beginning.

torn_from : (by : ℕ) (x : Option File) → is_fresh (phase_in x) ≡ false → phase_in (option_map (in_phase (file.Tearing by)) x) ≡ file.Tearing by
torn_from by None h = absurd (cc)
torn_from by (Some x) h = refl

callable_is : (p : FilePhase) → is_callable p ≡ true → (is_fresh p ≡ false) × (is_tearing p ≡ false)
callable_is file.Fresh h = absurd (cc)
callable_is file.Open h = (refl, refl)
callable_is (file.Tearing by) h = absurd (cc)
callable_is file.Dissociated h = (refl, refl)
callable_is file.Closed h = absurd (cc)

open_is_callable : (p : FilePhase) → is_open p ≡ true → is_callable p ≡ true
open_is_callable file.Fresh h = absurd (cc)
open_is_callable file.Open h = refl
open_is_callable (file.Tearing by) h = absurd (cc)
open_is_callable file.Dissociated h = absurd (cc)
open_is_callable file.Closed h = absurd (cc)

torn_callable : (p : FilePhase) (driver gone : Bool) → (if driver then is_open p && gone else is_callable p) ≡ true → is_callable p ≡ true
torn_callable p true gone h = open_is_callable p (and_left _ _ h)
torn_callable p false gone h = h

module _ (m : State) (f : ℕ) (r : Reached m) (quiet : is_quiet m f ≡ true) (callable : is_callable (phase_of m f) ≡ true) where
  none_doomed : (x : Object) → IsIn x m.objects → is_doomed_in f x ≡ true → ⊥
  none_doomed x k h =
      let same : x.file ≡ f = eqb-true x.file f (and_left _ _ h) in
      ⊎_elim
      (λ held. held_by_none m f quiet Finish x same held)
      (λ swept. let a : is_tearing (phase_of m x.file) ≡ false = ap (λ k. is_tearing (phase_of m k)) same ∙ (callable_is (phase_of m f) callable).1 in let b = and_left (is_tearing (phase_of m x.file)) (is_quiet m x.file) swept in cc)
      (r.ending x k (and_right _ _ h))

  clear_at_tear : has_doomed m f ≡ false
  clear_at_tear = list_any-none (is_doomed_in f) m.objects (λ x k. false_unless (is_doomed_in f x) (none_doomed x k))

  torn_now : (by : ℕ) → phase_of (with_file m f (in_phase (file.Tearing by))) f ≡ file.Tearing by
  torn_now by = ap phase_in (slice_get-at_place_same m.files f (in_phase (file.Tearing by))) ∙ torn_from by (slice_get m.files f) (callable_is (phase_of m f) callable).0

-- a history that goes on by an entry that leads to a swept state
swept_by : (h : List Entry) (e : Entry) (f by : ℕ) → IsLegal h → Allowed (state_of h) e → is_quiet (after (state_of h) e) f ≡ true → phase_of (after (state_of h) e) f ≡ file.Tearing by → has_doomed (after (state_of h) e) f ≡ false → IsSwept (h ++ e ∷ []) f by
swept_by h e f by legal allowed quiet tearing clear =
    let goes_on = sym (state_from-snoc start h e) in
    record {
      legal = IsLegalFrom-snoc start h e legal allowed;
      quiet = subst (λ s. is_quiet s f ≡ true) goes_on quiet;
      tearing = subst (λ s. phase_of s f ≡ file.Tearing by) goes_on tearing;
      clear = subst (λ s. has_doomed s f ≡ false) goes_on clear;
    }

pub IsSwept-tear : (h : List Entry) (f : ℕ) (by : ℕ) → IsLegal h → is_quiet (state_of h) f ≡ true → Allowed (state_of h) (Tear f by) → IsSwept (h ++ Tear f by ∷ []) f by
IsSwept-tear h f by legal quiet allowed =
    let m = state_of h in
    let callable = torn_callable (phase_of m f) (by == DRIVER) (is_unplugged m (device_of m f)) allowed.2 in
    swept_by h (Tear f by) f by legal allowed quiet
    (torn_now m f (Reached-state_of h legal) quiet callable by)
    (clear_at_tear m f (Reached-state_of h legal) quiet callable)

-- what is so of each item after a function is so of the mapped list's
over_map : (f : Object → Object) (P : Object → Type 0) (xs : List Object) → ((x : Object) → IsIn x xs → P (f x)) → (y : Object) → IsIn y (map f xs) → P y
over_map f P xs each y h = let from = IsIn-map f y xs h in subst P (sym from.gives) (each from.item from.within)

-- One turn: the newest object that can go is killed, and is gone.

doomed_from-live : (p : Phase) → is_live p ≡ true → is_doomed (doomed_from p) ≡ true
doomed_from-live phase.Made h = absurd (cc)
doomed_from-live phase.Live h = refl
doomed_from-live phase.Doomed h = refl
doomed_from-live phase.Husk h = absurd (cc)

doomed_if-live : (b : Bool) (x : Object) → b ≡ true → is_live x.phase ≡ true → is_doomed (changed_if b ToDoomed x).phase ≡ true
doomed_if-live true x e h = doomed_from-live x.phase h
doomed_if-live false x e h = absurd (cc)

husk_if-here : (b : Bool) (x : Object) → b ≡ true → is_husk (changed_if b ToHusk x).phase ≡ true
husk_if-here true x e = refl
husk_if-here false x e = absurd (cc)

not_husk-doomed : (p : Phase) → is_doomed p ≡ true → not (is_husk p) ≡ true
not_husk-doomed phase.Made h = absurd (cc)
not_husk-doomed phase.Live h = absurd (cc)
not_husk-doomed phase.Doomed h = refl
not_husk-doomed phase.Husk h = absurd (cc)

not_husk-before_doomed : (p : Phase) → not (is_husk (doomed_from p)) ≡ true → not (is_husk p) ≡ true
not_husk-before_doomed phase.Made h = h
not_husk-before_doomed phase.Live h = refl
not_husk-before_doomed phase.Doomed h = h
not_husk-before_doomed phase.Husk h = h

doomed_if-not_husk : (b : Bool) (x : Object) → not (is_husk (changed_if b ToDoomed x).phase) ≡ true → not (is_husk x.phase) ≡ true
doomed_if-not_husk true x h = not_husk-before_doomed x.phase h
doomed_if-not_husk false x h = h

husk_if-not_husk : (b : Bool) (x : Object) → not (is_husk (changed_if b ToHusk x).phase) ≡ true → not (is_husk x.phase) ≡ true
husk_if-not_husk true x h = absurd (cc)
husk_if-not_husk false x h = h

module _ (m : State) (f by : ℕ) (r : Reached m) (quiet : is_quiet m f ≡ true) (tearing : phase_of m f ≡ file.Tearing by) (clear : has_doomed m f ≡ false) (x : Object) (free : newest_free m f ≡ Some x) where
  found : Passes (can_go m f) x (reverse m.objects)
  found = Passes-find (can_go m f) x (reverse m.objects) free

  there : IsIn x m.objects
  there = IsIn-from_reverse x m.objects found.within

  of_file : x.file ≡ f
  of_file = eqb-true x.file f (and_left _ _ found.test)

  live_now : is_live x.phase ≡ true
  live_now = and_left _ _ (and_right (in_file f x) _ found.test)

  swept_now : may_sweep m f ≡ true
  swept_now = both_true (ap is_tearing tearing) quiet

  kills_in : may_kill_in m x.id f ≡ true
  kills_in = both_true swept_now (both_true (ap not clear) (ap (is_object x.id) free ∙ eq-eqb x.id x.id refl))

  pub kills : may_kill m x.id ≡ true
  kills = ap (may_kill_object m x.id) (find_rising 0 m.made x m.objects there r.graph.rising) ∙ ap (may_kill_in m x.id) of_file ∙ kills_in

  -- after the kill

  killed_is_it : has_id x.id x ≡ true
  killed_is_it = eq-eqb x.id x.id refl

  killed_there : IsIn (on_object x.id ToDoomed x) (map (on_object x.id ToDoomed) m.objects)
  killed_there = IsIn-into_map (on_object x.id ToDoomed) x m.objects there

  killed_doomed : is_doomed (on_object x.id ToDoomed x).phase ≡ true
  killed_doomed = doomed_if-live (has_id x.id x) x killed_is_it live_now

  killed_file : (on_object x.id ToDoomed x).file ≡ f
  killed_file = on_object-file x.id ToDoomed x ∙ of_file

  killed_found : object_with (with_object m x.id ToDoomed) x.id ≡ Some (on_object x.id ToDoomed x)
  killed_found =
      ap (λ i. find (has_id i) (map (on_object x.id ToDoomed) m.objects)) (sym (on_object-id x.id ToDoomed x))
      ∙ find_rising 0 m.made (on_object x.id ToDoomed x) (map (on_object x.id ToDoomed) m.objects) killed_there (IsGraph-map m.made x.id ToDoomed m.objects r.graph (gains_doomed m.made x.id m.objects)).rising

  pub goes : may_go (with_object m x.id ToDoomed) x.id ≡ true
  goes = ap (may_go_object (with_object m x.id ToDoomed)) killed_found ∙ both_true killed_doomed (ap (may_sweep m) killed_file ∙ swept_now)

  -- after its going

  turned : gone_from (with_object m x.id ToDoomed) x.id (object_with (with_object m x.id ToDoomed) x.id) ≡ with_burial (with_object (with_object m x.id ToDoomed) x.id ToHusk) (on_object x.id ToDoomed x)
  turned = ap (gone_from (with_object m x.id ToDoomed) x.id) killed_found

  not_doomed_before : (y : Object) → IsIn y m.objects → is_doomed_in f (on_object x.id ToHusk (on_object x.id ToDoomed y)) ≡ true → ⊥
  not_doomed_before y k h =
      let y1 = on_object x.id ToDoomed y in
      let apart : (y1.id ≢ x.id) × (is_doomed y1.phase ≡ true) = husk-doomed x.id y1 (and_right _ _ h) in
      let same_file : (on_object x.id ToHusk y1).file ≡ y.file = on_object-file x.id ToHusk y1 ∙ on_object-file x.id ToDoomed y in
      let in_it : in_file f y ≡ true = ap (λ k. k == f) (sym same_file) ∙ and_left _ _ h in
      ⊎_elim
      (λ e. apart.0 (on_object-id x.id ToDoomed y ∙ e))
      (λ old. let a : is_doomed_in f y ≡ true = both_true in_it old in let b : is_doomed_in f y ≡ false = fails_any (is_doomed_in f) y m.objects clear k in cc)
      (doomed-doomed x.id y apart.1)

  pub clear_behind : list_any (is_doomed_in f) (map (on_object x.id ToHusk) (map (on_object x.id ToDoomed) m.objects)) ≡ false
  clear_behind =
      list_any-none (is_doomed_in f) _
      (over_map (on_object x.id ToHusk) (λ z. is_doomed_in f z ≡ false) _
      (over_map (on_object x.id ToDoomed) (λ z. is_doomed_in f (on_object x.id ToHusk z) ≡ false) m.objects
      (λ y k. false_unless _ (not_doomed_before y k))))

  standing_killed : (y : Object) → is_standing_in f (on_object x.id ToDoomed y) ≡ true → is_standing_in f y ≡ true
  standing_killed y h = both_true (ap (λ k. k == f) (sym (on_object-file x.id ToDoomed y)) ∙ and_left _ _ h) (doomed_if-not_husk (has_id x.id y) y (and_right _ _ h))

  standing_husk : (y : Object) → is_standing_in f (on_object x.id ToHusk y) ≡ true → is_standing_in f y ≡ true
  standing_husk y h = both_true (ap (λ k. k == f) (sym (on_object-file x.id ToHusk y)) ∙ and_left _ _ h) (husk_if-not_husk (has_id x.id y) y (and_right _ _ h))

  stood : is_standing_in f (on_object x.id ToDoomed x) ≡ true
  stood = both_true (eq-eqb _ f killed_file) (not_husk-doomed _ killed_doomed)

  stands_no_more : is_standing_in f (on_object x.id ToHusk (on_object x.id ToDoomed x)) ≡ false
  stands_no_more =
      let y = on_object x.id ToDoomed x in
      let husk : is_husk (on_object x.id ToHusk y).phase ≡ true = husk_if-here (has_id x.id y) y (eq-eqb y.id x.id (on_object-id x.id ToDoomed x)) in
      false_unless _ (λ h. let a : not (is_husk (on_object x.id ToHusk y).phase) ≡ true = and_right _ _ h in let b : not (is_husk (on_object x.id ToHusk y).phase) ≡ false = ap not husk in cc)

  pub fewer_stand : count_by (is_standing_in f) (map (on_object x.id ToHusk) (map (on_object x.id ToDoomed) m.objects)) < count_by (is_standing_in f) m.objects
  fewer_stand =
      let first = count_by-map-le (is_standing_in f) (on_object x.id ToDoomed) standing_killed m.objects in
      let second = count_by-map-lt (is_standing_in f) (on_object x.id ToHusk) standing_husk (on_object x.id ToDoomed x) (map (on_object x.id ToDoomed) m.objects) killed_there stood stands_no_more in
      omega arith

pub may_kill-swept : (h : List Entry) (f by : ℕ) (x : Object) → IsSwept h f by → newest_free (state_of h) f ≡ Some x → may_kill (state_of h) x.id ≡ true
may_kill-swept h f by x s free = kills (state_of h) f by (Reached-state_of h s.legal) s.quiet s.tearing s.clear x free

pub may_go-killed : (h : List Entry) (f by : ℕ) (x : Object) → IsSwept h f by → newest_free (state_of h) f ≡ Some x → may_go (state_of (h ++ Kill x.id ∷ [])) x.id ≡ true
may_go-killed h f by x s free = rw (state_from-snoc start h (Kill x.id)) (goes (state_of h) f by (Reached-state_of h s.legal) s.quiet s.tearing s.clear x free)

-- what was killed stands doomed, and is else as it was
pub object_with-killed : (h : List Entry) (f by : ℕ) (x : Object) → IsSwept h f by → newest_free (state_of h) f ≡ Some x → (object_with (state_of (h ++ Kill x.id ∷ [])) x.id ≡ Some (with_change ToDoomed x)) × (x.file ≡ f)
object_with-killed h f by x s free =
    let r = Reached-state_of h s.legal in
    let it : on_object x.id ToDoomed x ≡ with_change ToDoomed x = ap (λ b. changed_if b ToDoomed x) (eq-eqb x.id x.id refl) in (
      ap (λ t. object_with t x.id) (state_from-snoc start h (Kill x.id)) ∙ killed_found (state_of h) f by r s.quiet s.tearing s.clear x free ∙ ap Some it,
      of_file (state_of h) f by r s.quiet s.tearing s.clear x free,
    )

-- a kill and its release leave a swept file, with fewer objects standing
pub IsSwept-turn :
    (h : List Entry) (f by kept : ℕ) (x : Object) → IsSwept h f by → newest_free (state_of h) f ≡ Some x
    → IsSwept ((h ++ Kill x.id ∷ []) ++ Gone x.id kept ∷ []) f by
    × (standing_count (state_of ((h ++ Kill x.id ∷ []) ++ Gone x.id kept ∷ [])) f < standing_count (state_of h) f)
IsSwept-turn h f by kept x s free =
    let r = Reached-state_of h s.legal in
    let h1 = h ++ Kill x.id ∷ [] in
    let legal : IsLegal (h ++ Kill x.id ∷ []) = IsLegalFrom-snoc start h (Kill x.id) s.legal (may_kill-swept h f by x s free) in
    let e : after (state_of (h ++ Kill x.id ∷ [])) (Gone x.id kept) ≡ with_burial (with_object (with_object (state_of h) x.id ToDoomed) x.id ToHusk) (on_object x.id ToDoomed x) =
    ap (λ t. gone_from t x.id (object_with t x.id)) (state_from-snoc start h (Kill x.id)) ∙ turned (state_of h) f by r s.quiet s.tearing s.clear x free
    in (
      swept_by (h ++ Kill x.id ∷ []) (Gone x.id kept) f by legal (may_go-killed h f by x s free)
          (subst (λ t. is_quiet t f ≡ true) (sym e) s.quiet)
          (subst (λ t. phase_of t f ≡ file.Tearing by) (sym e) s.tearing)
          (subst (λ t. has_doomed t f ≡ false) (sym e) (clear_behind (state_of h) f by r s.quiet s.tearing s.clear x free)),
      subst (λ t. standing_count t f < standing_count (state_of h) f) (sym (state_from-snoc start (h ++ Kill x.id ∷ []) (Gone x.id kept) ∙ e)) (fewer_stand (state_of h) f by r s.quiet s.tearing s.clear x free),
    )

-- The end.

rank_most : (k : Kind) → kind_rank k ≤ 3
rank_most Pd = omega arith
rank_most Channel = omega arith
rank_most Cq = omega arith
rank_most Qp = omega arith
rank_most Srq = omega arith
rank_most Ah = omega arith
rank_most Mr = omega arith
rank_most Mw = omega arith

used_if : (a b c : Bool) → (a && (b && not c)) ≡ false → a ≡ true → b ≡ true → c ≡ true
used_if a b true h ha hb = refl
used_if a b false h ha hb = absurd (let k : (a && (b && true)) ≡ true = both_true ha (both_true hb refl) in cc)

module _ (m : State) (f : ℕ) (r : Reached m) (quiet : is_quiet m f ≡ true) (clear : has_doomed m f ≡ false) (none_free : newest_free m f ≡ None) where
  -- a live object of the file has a user, and that another, of higher and higher rank
  climbs : (n : ℕ) (x : Object) → IsIn x m.objects → in_file f x ≡ true → is_live x.phase ≡ true → 4 ≤ kind_rank x.kind + n → ⊥
  climbs zero x k of_it live most = absurd (omega (arith, rank_most x.kind))
  climbs (suc n) x k of_it live most =
      let stuck : can_go m f x ≡ false = fails_find (can_go m f) x (reverse m.objects) none_free (IsIn-reverse x m.objects k) in
      let has_one : has_users m x.id ≡ true = used_if (in_file f x) (is_live x.phase) (has_users m x.id) stuck of_it live in
      let user = SomePasses-list_any (uses_object x.id) m.objects has_one in
      let y = user.item in
      let above : IsAbove y x = (r.graph.uses y user.passes.within).above x k user.passes.test in
      let in_it : in_file f y ≡ true = ap (λ k. k == f) (sym above.same) ∙ of_it in
      ⊎_elim
      (λ made. held_by_none m f quiet Commit y (eqb-true y.file f in_it) (r.making y user.passes.within made))
      (λ rest.
      ⊎_elim
      (λ lives. climbs n y user.passes.within in_it lives (omega (arith, above.rank)))
      (λ rest.
      ⊎_elim
      (λ doomed. let a : is_doomed_in f y ≡ true = both_true in_it doomed in let b : is_doomed_in f y ≡ false = fails_any (is_doomed_in f) y m.objects clear user.passes.within in cc)
      (λ husk. uses_nothing y x.id ((r.graph.uses y user.passes.within).husk husk) user.passes.test)
      rest)
      rest)
      (phase_cases y.phase)

  not_standing : (x : Object) → IsIn x m.objects → is_standing_in f x ≡ true → ⊥
  not_standing x k h =
      let of_it : in_file f x ≡ true = and_left _ _ h in
      ⊎_elim
      (λ made. held_by_none m f quiet Commit x (eqb-true x.file f of_it) (r.making x k made))
      (λ rest.
      ⊎_elim
      (λ lives. climbs 4 x k of_it lives (omega arith))
      (λ rest.
      ⊎_elim
      (λ doomed. let a : is_doomed_in f x ≡ true = both_true of_it doomed in let b : is_doomed_in f x ≡ false = fails_any (is_doomed_in f) x m.objects clear k in cc)
      (λ husk. let a : not (is_husk x.phase) ≡ true = and_right _ _ h in let b : not (is_husk x.phase) ≡ false = ap not husk in cc)
      rest)
      rest)
      (phase_cases x.phase)

  none_standing : has_standing m f ≡ false
  none_standing = list_any-none (is_standing_in f) m.objects (λ x k. false_unless _ (not_standing x k))

  closes : (by : ℕ) → phase_of m f ≡ file.Tearing by → by ≢ DRIVER → may_close m f ≡ true
  closes by tearing ne = both_true (ap is_closing tearing ∙ ap not (ne_eqb by DRIVER ne)) (both_true quiet (ap not none_standing))

  leaves : phase_of m f ≡ file.Tearing DRIVER → may_dissociate m f ≡ true
  leaves tearing = both_true (ap is_removing tearing ∙ eq-eqb DRIVER DRIVER refl) (both_true quiet (ap not none_standing))

  no_live : list_any (is_live_in f) m.objects ≡ false
  no_live = list_any-none (is_live_in f) m.objects (λ x k. false_unless _ (λ h. climbs 4 x k (and_left _ _ h) (and_right _ _ h) (omega arith)))

-- when nothing of a swept file can go, it may be closed
pub may_close-swept : (h : List Entry) (f by : ℕ) → IsSwept h f by → by ≢ DRIVER → newest_free (state_of h) f ≡ None → may_close (state_of h) f ≡ true
may_close-swept h f by s ne none_free = closes (state_of h) f (Reached-state_of h s.legal) s.quiet s.clear none_free by s.tearing ne

pub may_dissociate-swept : (h : List Entry) (f : ℕ) → IsSwept h f DRIVER → newest_free (state_of h) f ≡ None → may_dissociate (state_of h) f ≡ true
may_dissociate-swept h f s none_free = leaves (state_of h) f (Reached-state_of h s.legal) s.quiet s.clear none_free s.tearing

-- while an object is live, one can go
free_by : (m : State) (f : ℕ) (slot : Option Object) → Reached m → is_quiet m f ≡ true → has_doomed m f ≡ false → list_any (is_live_in f) m.objects ≡ true → newest_free m f ≡ slot → IsSome slot
free_by m f None r quiet clear live none = absurd (let no = no_live m f r quiet clear none in cc)
free_by m f (Some x) r quiet clear live is = refl

pub finds_free : (h : List Entry) (f : ℕ) → IsLegal h → is_quiet (state_of h) f ≡ true → has_doomed (state_of h) f ≡ false → list_any (is_live_in f) (state_of h).objects ≡ true → IsSome (newest_free (state_of h) f)
finds_free h f legal quiet clear live = free_by (state_of h) f (newest_free (state_of h) f) (Reached-state_of h legal) quiet clear live refl
