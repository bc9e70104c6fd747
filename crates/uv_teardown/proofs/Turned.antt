-- What a sweep may do next.
use Rattle.std.proofs.Common.{◌≡◌, ℕ, ◌+◌, ◌<◌, length, subst, None, Bool, true, false, List, [], ◌∷◌, Option, Some, count_by, refl, ap, sym, ◌∙◌, arith}
use Rattle.std.specs.Prelude.{not, ◌&&◌, ◌||◌, cond, reverse, slice_get}
use Rattle.std.specs.List.{list_any}
use Rattle.std.proofs.lemmas.Bool.{and_parts, eq-eqb, eqb-true}
use Rattle.std.proofs.lemmas.List.Sums.{sum_by-cons}
use Rattle.std.proofs.lemmas.Option.{slice_get_within}
use Rattle.uv_num.specs.declared.limits.TheConstants.{FILES}
use Rattle.uv_machine.specs.declared.entry.Entry.{Entry}
use Rattle.uv_machine.specs.declared.file.File.{File}
use Rattle.uv_machine.specs.declared.file.FilePhase.TheVariants as file
use Rattle.uv_machine.specs.declared.object.Object.{Object}
use Rattle.uv_machine.specs.declared.state.State.{State}
use Rattle.uv_machine.specs.Objects.{in_file, is_live}
use Rattle.uv_machine.specs.Plans.{is_call_on}
use Rattle.uv_machine.specs.States.{object_with, phase_in, phase_of, is_quiet, has_users, can_go, newest_free}
use Rattle.uv_machine.specs.Histories.{state_of}
use Rattle.uv_machine.specs.Laws.{IsSwept}
use Rattle.uv_machine.proofs.Members.{Passes-find, IsIn-from_reverse}
use Rattle.uv_machine.proofs.Reaching.{Reached-state_of}
use Rattle.uv_graph.specs.Calls.{calls_on}
use Rattle.uv_graph.specs.Owns.{is_torn_by, torn_by_object}
use Rattle.uv_graph.proofs.Holders.{object_is}

-- Calls.

none_step : {X : Type 0} (p : X → Bool) (ys : List X) (b : Bool) → cond b 1 0 + count_by p ys ≡ 0 → (count_by p ys ≡ 0 → list_any p ys ≡ false) → (b || list_any p ys) ≡ false
none_step p ys true e rest = absurd (omega (arith, e))
none_step p ys false e rest = rest (omega (arith, e))

none_counted : {X : Type 0} (p : X → Bool) (xs : List X) → count_by p xs ≡ 0 → list_any p xs ≡ false
none_counted p [] e = refl
none_counted p (y ∷ ys) e = none_step p ys (p y) (sym (sum_by-cons (λ x. cond (p x) 1 0) y ys) ∙ e) (none_counted p ys)

-- a file of which no call is counted is quiet
pub quiet_counted : (m : State) (f : ℕ) → calls_on m f ≡ 0 → is_quiet m f ≡ true
quiet_counted m f e = ap not (none_counted (is_call_on f) m.calls e)

-- Files.

torn_in : (files : List File) (f by : ℕ) (slot : Option File) → slice_get files f ≡ slot → phase_in slot ≡ file.Tearing by → f < length files
torn_in files f by None is tearing = absurd (let no : file.Fresh ≡ file.Tearing by = tearing in cc)
torn_in files f by (Some x) is tearing = slice_get_within files f x is

-- a file that is being torn down is one of the machine's
pub torn_within : (h : List Entry) (f by : ℕ) → IsSwept h f by → f < FILES
torn_within h f by swept =
    let m = state_of h in
    subst (λ (n : ℕ). f < n) (Reached-state_of h swept.legal).files (torn_in m.files f by (slice_get m.files f) refl swept.tearing)

-- Sweeps.

module _ (h : List Entry) (f by : ℕ) (x : Object) (swept : IsSwept h f by) (newest : newest_free (state_of h) f ≡ Some x) where
  -- what can go next stands there
  pub newest_there : object_with (state_of h) x.id ≡ Some x
  newest_there =
      let m = state_of h in
      let p = Passes-find (can_go m f) x (reverse m.objects) newest in
      object_is m x (Reached-state_of h swept.legal) (IsIn-from_reverse x m.objects p.within)

  newest_file : x.file ≡ f
  newest_file =
      let m = state_of h in
      let p = Passes-find (can_go m f) x (reverse m.objects) newest in
      eqb-true x.file f (and_parts (in_file f x) (is_live x.phase && not (has_users m x.id)) p.test).0

  -- and its file is the one that the teardown tears down
  pub newest_torn : torn_by_object (state_of h) by (object_with (state_of h) x.id) ≡ true
  newest_torn =
      let m = state_of h in
      ap (torn_by_object m by) newest_there ∙ ap (λ g. is_torn_by by (phase_of m g)) newest_file ∙ ap (is_torn_by by) swept.tearing ∙ eq-eqb by by refl
