-- Entries that leave every cell as it was.
use Rattle.std.proofs.Common.{◌≡◌, ℕ, Bool, true, false, List, Option, Some, None, IsSome, map, refl, ap, sym, ◌∙◌, subst}
use Rattle.std.specs.Prelude.{not, ◌&&◌, filter, find, option_map, if◌then◌else◌}
use Rattle.std.proofs.lemmas.Option.{none-some, same_Some}
use Rattle.std.proofs.lemmas.Bool.{and_parts, ne_eqb}
use Rattle.uv_num.specs.declared.errno.Errno.{Errno}
use Rattle.uv_num.specs.declared.identity.Identity.{Identity}
use Rattle.uv_num.specs.declared.request.Act as request
use Rattle.uv_num.specs.declared.request.Act.TheVariants.{Modify, Query, Bind, Unbind, Async}
use Rattle.uv_num.specs.declared.request.Role.{Role}
use Rattle.uv_num.specs.declared.request.Role.TheVariants.{Creates, Destroys, Acts}
use Rattle.uv_num.specs.Looks.{asked}
use Rattle.uv_num.specs.Request.{role_of}
use Rattle.uv_pool.specs.declared.deed.Life.{Life}
use Rattle.uv_machine.specs.declared.entry.Entry.{Entry}
use Rattle.uv_machine.specs.declared.entry.Entry.TheVariants.{Open, Enter, Step, Unplug, Tear, Kill, Gone, Dissociated, Closed}
use Rattle.uv_machine.specs.declared.entry.Word.{Word}
use Rattle.uv_machine.specs.declared.entry.Word.TheVariants.{Reserve, Look, Make, Commit, Act, Lock, Check, Finish, Abort, Free, Exit}
use Rattle.uv_machine.specs.declared.entry.Answer.{Answer}
use Rattle.uv_machine.specs.declared.object.Phase.{Phase}
use Rattle.uv_machine.specs.declared.object.Phase.TheVariants as phase
use Rattle.uv_machine.specs.declared.object.Binding.{Binding}
use Rattle.uv_machine.specs.declared.object.Object.{Object}
use Rattle.uv_machine.specs.declared.object.Change.TheVariants.{ToLive, ToDoomed, ToBound}
use Rattle.uv_machine.specs.declared.call.InFlight.{InFlight}
use Rattle.uv_machine.specs.declared.state.State.{State}
use Rattle.uv_machine.specs.Objects.{has_id, is_doomed, is_husk, live_from, doomed_from, with_change, on_object}
use Rattle.uv_machine.specs.Plans.{acted_on}
use Rattle.uv_machine.specs.States.{object_with, is_quiet, is_closing, has_standing, phase_of}
use Rattle.uv_machine.specs.Effects.{refusal_in, commit, check, left, act, act_by, binding_of, buried_if_doomed, with_burial, finish, not_with_id, not_in_file, unless_answered, unless_refused, after_step, stepped}
use Rattle.uv_machine.specs.Histories.{Allowed, after}
use Rattle.uv_machine.specs.Reached.{IsIn, Reached}
use Rattle.uv_machine.proofs.Graph.{find_rising}
use Rattle.uv_machine.proofs.Turns.{IsTurn-allowed}
use Rattle.uv_machine.proofs.Holding.{finish_objects}
use Rattle.uv_machine.proofs.Balanced.{not_standing}
use Rattle.uv_machine.specs.Made.{is_at}
use Rattle.uv_graph.specs.Lives.{known_in}
use Rattle.uv_graph.specs.Notes.{Leaves, WordLeaves, IsHuskIf}
use Rattle.uv_graph.specs.Seats.{stands_at, holder_of}
use Rattle.uv_graph.proofs.Finding.{find-map, find-filter}

-- each cell is as it was
pub record SameSeats (m m' : State) : Type 0 where
  pub pools : m'.pools ≡ m.pools
  pub holders : (lives : List Life) (k i : ℕ) → holder_of lives m'.objects k i ≡ holder_of lives m.objects k i

seats_same : (m m' : State) → m'.pools ≡ m.pools → m'.objects ≡ m.objects → SameSeats m m'
seats_same m m' pools objects = record { pools = pools; holders = λ ls k i. ap (λ v. holder_of ls v k i) objects }

-- Objects that change.

not_so : (b : Bool) → not b ≡ true → b ≡ false
not_so true e = absurd cc
not_so false e = refl

twice : (ls : List Life) (f : Object → Object) (x : Option Object) → ((y : Object) → known_in ls (f y) ≡ known_in ls y) → option_map (known_in ls) (option_map f x) ≡ option_map (known_in ls) x
twice ls f None same = refl
twice ls f (Some y) same = ap (λ (v : Identity). Some v) (same y)

holder_map : (ls : List Life) (objects : List Object) (f : Object → Object) (k i : ℕ) → ((x : Object) → IsIn x objects → stands_at k i (f x) ≡ stands_at k i x) → ((x : Object) → known_in ls (f x) ≡ known_in ls x) → holder_of ls (map f objects) k i ≡ holder_of ls objects k i
holder_map ls objects f k i stands same =
    ap (option_map (known_in ls)) (find-map (stands_at k i) f objects stands)
    ∙ twice ls f (find (stands_at k i) objects) same

holder_filter : (ls : List Life) (objects : List Object) (q : Object → Bool) (k i : ℕ) → ((x : Object) → IsIn x objects → is_husk x.phase ≡ false → q x ≡ true) → holder_of ls (filter q objects) k i ≡ holder_of ls objects k i
holder_filter ls objects q k i keeps =
    ap (option_map (known_in ls))
    (find-filter (stands_at k i) q objects (λ x h e. keeps x h (not_so (is_husk x.phase) (and_parts (is_at k i x) (not (is_husk x.phase)) e).1)))

live_husk : (p : Phase) → is_husk (live_from p) ≡ is_husk p
live_husk phase.Made = refl
live_husk phase.Live = refl
live_husk phase.Doomed = refl
live_husk phase.Husk = refl

doomed_husk : (p : Phase) → is_husk (doomed_from p) ≡ is_husk p
doomed_husk phase.Made = refl
doomed_husk phase.Live = refl
doomed_husk phase.Doomed = refl
doomed_husk phase.Husk = refl

stands_live : (k i : ℕ) (b : Bool) (x : Object) → stands_at k i (if b then with_change ToLive x else x) ≡ stands_at k i x
stands_live k i true x = ap (λ h. is_at k i x && not h) (live_husk x.phase)
stands_live k i false x = refl

stands_doomed : (k i : ℕ) (b : Bool) (x : Object) → stands_at k i (if b then with_change ToDoomed x else x) ≡ stands_at k i x
stands_doomed k i true x = ap (λ h. is_at k i x && not h) (doomed_husk x.phase)
stands_doomed k i false x = refl

stands_bound : (k i : ℕ) (b : Bool) (binding : Option Binding) (x : Object) → stands_at k i (if b then with_change (ToBound binding) x else x) ≡ stands_at k i x
stands_bound k i true binding x = refl
stands_bound k i false binding x = refl

known_live : (ls : List Life) (b : Bool) (x : Object) → known_in ls (if b then with_change ToLive x else x) ≡ known_in ls x
known_live ls true x = refl
known_live ls false x = refl

known_doomed : (ls : List Life) (b : Bool) (x : Object) → known_in ls (if b then with_change ToDoomed x else x) ≡ known_in ls x
known_doomed ls true x = refl
known_doomed ls false x = refl

-- a bind leaves what a window is known by
known_bound : (ls : List Life) (b : Bool) (binding : Option Binding) (x : Object) → known_in ls (if b then with_change (ToBound binding) x else x) ≡ known_in ls x
known_bound ls true binding x = refl
known_bound ls false binding x = refl

seats_live : (m m' : State) (o : ℕ) → m'.pools ≡ m.pools → m'.objects ≡ map (on_object o ToLive) m.objects → SameSeats m m'
seats_live m m' o pools objects = record {
  pools = pools;
  holders = λ ls k i. ap (λ v. holder_of ls v k i) objects ∙ holder_map ls m.objects (on_object o ToLive) k i (λ x h. stands_live k i (has_id o x) x) (λ x. known_live ls (has_id o x) x);
}

seats_doomed : (m m' : State) (o : ℕ) → m'.pools ≡ m.pools → m'.objects ≡ map (on_object o ToDoomed) m.objects → SameSeats m m'
seats_doomed m m' o pools objects = record {
  pools = pools;
  holders = λ ls k i. ap (λ v. holder_of ls v k i) objects ∙ holder_map ls m.objects (on_object o ToDoomed) k i (λ x h. stands_doomed k i (has_id o x) x) (λ x. known_doomed ls (has_id o x) x);
}

seats_bound : (m m' : State) (o : ℕ) (binding : Option Binding) → m'.pools ≡ m.pools → m'.objects ≡ map (on_object o (ToBound binding)) m.objects → SameSeats m m'
seats_bound m m' o binding pools objects = record {
  pools = pools;
  holders = λ ls k i. ap (λ v. holder_of ls v k i) objects
      ∙ holder_map ls m.objects (on_object o (ToBound binding)) k i (λ x h. stands_bound k i (has_id o x) binding x) (λ x. known_bound ls (has_id o x) binding x);
}

-- Steps.

husk_not_doomed : (p : Phase) → is_husk p ≡ true → is_doomed p ≡ false
husk_not_doomed phase.Made e = refl
husk_not_doomed phase.Live e = refl
husk_not_doomed phase.Doomed e = absurd cc
husk_not_doomed phase.Husk e = refl

husk_there : (x : Object) (slot : Option Object) → slot ≡ Some x → IsHuskIf slot → is_husk x.phase ≡ false → ⊥
husk_there x None e husk stands = none-some x e
husk_there x (Some y) e husk stands = let same : is_husk y.phase ≡ is_husk x.phase = ap (λ (v : Object). is_husk v.phase) (same_Some y x e) in cc

module _ (m : State) (r : Reached m) (c : ℕ) (call : InFlight) where
  seats_act : (a : Answer) (what : request.Act) → SameSeats m (act m c call a what)
  seats_act a (Modify to attrs) = seats_same m (act m c call a (Modify to attrs)) refl refl
  seats_act a Query = seats_same m (act m c call a Query) refl refl
  seats_act a (Bind offset long access) = seats_bound m (act m c call a (Bind offset long access)) (acted_on call) (Some (binding_of call offset long access)) refl refl
  seats_act a (Unbind offset long access) = seats_bound m (act m c call a (Unbind offset long access)) (acted_on call) None refl refl
  seats_act a Async = seats_same m (act m c call a Async) refl refl

  seats_act_by : (a : Answer) (role : Role) → SameSeats m (act_by m c call a role)
  seats_act_by a (Creates kind) = seats_same m m refl refl
  seats_act_by a (Destroys asked) = seats_same m m refl refl
  seats_act_by a (Acts what) = seats_act a what

  seats_unless : (m' : State) (e : Option Errno) → SameSeats m m' → SameSeats m (unless_refused m c e m')
  seats_unless m' None s = s
  seats_unless m' (Some e) s = seats_same m (unless_refused m c (Some e) m') refl refl

  seats_refused : (m' : State) (e : Option Errno) → IsSome e → SameSeats m (unless_refused m c e m')
  seats_refused m' None some = absurd cc
  seats_refused m' (Some e) some = seats_same m (unless_refused m c (Some e) m') refl refl

  -- the finish of a husk
  husk_pools : (o : ℕ) (slot : Option Object) → IsHuskIf slot → (buried_if_doomed m slot).pools ≡ m.pools
  husk_pools o None husk = refl
  husk_pools o (Some x) husk = ap (λ b. (if b then with_burial m x else m).pools) (husk_not_doomed x.phase husk)

  none_there : (o : ℕ) (slot : Option Object) → object_with m o ≡ slot → IsHuskIf slot → (x : Object) → IsIn x m.objects → is_husk x.phase ≡ false → not_with_id o x ≡ true
  none_there o slot e husk x k stands =
      ap not (ne_eqb x.id o (λ same. (
      let found : object_with m o ≡ Some x = ap (λ n. find (has_id n) m.objects) (sym same) ∙ find_rising 0 m.made x m.objects k r.graph.rising in
      husk_there x slot (sym e ∙ found) husk stands)))

  seats_finish : (o : ℕ) → IsHuskIf (object_with m o) → SameSeats m (finish m c o)
  seats_finish o husk = record {
    pools = husk_pools o (object_with m o) husk;
    holders = λ ls k i. ap (λ v. holder_of ls v k i) (finish_objects m c o) ∙ holder_filter ls m.objects (not_with_id o) k i (none_there o (object_with m o) refl husk);
  }

  seats_stepped : (w : Word) (o : ℕ) (a : Answer) → WordLeaves w (refusal_in a) (object_with m o) → SameSeats m (stepped m c call w o a)
  seats_stepped Reserve o a leaves = seats_unless _ (refusal_in a) (seats_same m _ refl refl)
  seats_stepped Look o a leaves = seats_unless _ (refusal_in a) (seats_same m _ refl refl)
  seats_stepped Make o a leaves = seats_refused _ (refusal_in a) leaves
  seats_stepped Commit o a leaves = seats_unless (commit m c o) (refusal_in a) (seats_live m (commit m c o) o refl refl)
  seats_stepped Act o a leaves = seats_unless _ (refusal_in a) (seats_act_by a (role_of call.request))
  seats_stepped Lock o a leaves = seats_unless _ (refusal_in a) (seats_same m _ refl refl)
  seats_stepped Check o a leaves = seats_unless (check m c o) (refusal_in a) (seats_doomed m (check m c o) o refl refl)
  seats_stepped Finish o a leaves = seats_unless (finish m c o) (refusal_in a) (seats_finish o leaves)
  seats_stepped Abort o a leaves = seats_unless _ (refusal_in a) (seats_same m _ refl refl)
  seats_stepped Free o a leaves = seats_unless _ (refusal_in a) (seats_same m _ refl refl)
  seats_stepped Exit o a leaves = seats_same m (left m c) refl refl

seats_answered : (m m' : State) (e : Option Errno) → SameSeats m m' → SameSeats m (unless_answered m e m')
seats_answered m m' None s = s
seats_answered m m' (Some e) s = seats_same m m refl refl

kept_standing : (m : State) (f : ℕ) → has_standing m f ≡ false → (x : Object) → IsIn x m.objects → is_husk x.phase ≡ false → not_in_file f x ≡ true
kept_standing m f none x k stands =
    ap not (ne_eqb x.file f (λ same. (let husk = not_standing m f x none k same in cc)))

-- an entry that leaves the deeds leaves each cell as it was
pub seats_after : (m : State) (e : Entry) → Reached m → Allowed m e → Leaves m e → SameSeats m (after m e)
seats_after m (Open c f d a) r allowed leaves = seats_answered m _ (refusal_in a) (seats_same m _ refl refl)
seats_after m (Enter c f request a) r allowed leaves = seats_answered m _ (refusal_in a) (seats_same m _ refl refl)
seats_after m (Step c w o found a) r allowed leaves =
    let t = IsTurn-allowed m c w o found a allowed in
    let P : Option InFlight → Type 0 = λ slot. SameSeats m (after_step m c slot w o a) in
    subst P (sym t.is) (seats_stepped m r c t.call w o a leaves)
seats_after m (Unplug d) r allowed leaves = seats_same m (after m (Unplug d)) refl refl
seats_after m (Tear f by) r allowed leaves = seats_same m (after m (Tear f by)) refl refl
seats_after m (Kill o) r allowed leaves = seats_doomed m (after m (Kill o)) o refl refl
seats_after m (Gone o kept) r allowed leaves = absurd leaves
seats_after m (Dissociated f) r allowed leaves = seats_same m (after m (Dissociated f)) refl refl
seats_after m (Closed f) r allowed leaves =
    let parts = and_parts (is_closing (phase_of m f)) (is_quiet m f && not (has_standing m f)) allowed.1 in
    let none = not_so (has_standing m f) (and_parts (is_quiet m f) (not (has_standing m f)) parts.1).1 in
    record { pools = refl; holders = λ ls k i. holder_filter ls m.objects (not_in_file f) k i (kept_standing m f none) }
