-- The objects that a history releases are those that its releases name, each as often.
use Rattle.std.proofs.Common.{◌≡◌, ℕ, ◌+◌, Bool, true, false, List, [], ◌∷◌, Option, Some, None, refl, ap, sym, ◌∙◌, arith}
use Rattle.std.specs.Prelude.{◌++◌, ◌&&◌, ◌||◌, ◌==◌, count_by, if◌then◌else◌}
use Rattle.std.proofs.lemmas.Bool.{and_parts, eqb-true}
use Rattle.uv_machine.specs.declared.entry.Entry.{Entry}
use Rattle.uv_machine.specs.declared.entry.Entry.TheVariants.{Open, Enter, Step, Unplug, Tear, Kill, Gone, Dissociated, Closed}
use Rattle.uv_machine.specs.declared.entry.Word.{Word}
use Rattle.uv_machine.specs.declared.entry.Word.TheVariants as word
use Rattle.uv_machine.specs.declared.object.Object.{Object}
use Rattle.uv_machine.specs.declared.state.State.{State}
use Rattle.uv_machine.specs.Objects.{is_kind, has_id, is_made, is_live, is_doomed}
use Rattle.uv_machine.specs.States.{object_with, start}
use Rattle.uv_machine.specs.Outside.{may_go_object}
use Rattle.uv_machine.specs.Histories.{Allowed, after, IsLegalFrom, state_of}
use Rattle.uv_machine.specs.Accounts.{one_if}
use Rattle.uv_machine.specs.Lives.{is_doomed_object, finishes, releases, releases_from}
use Rattle.uv_num.specs.declared.kind.Kind.{Kind}
use Rattle.uv_machine.specs.Made.{made_in, has_live_cell, listed, if_doomed, step_released, released_by, released_from}
use Rattle.uv_machine.specs.ObjectLaws.{ReleasedCounts, LiveCellIsOne}
use Rattle.uv_machine.proofs.Suiting.{is_kind-same}
use Rattle.uv_machine.proofs.Keeping.{same_object}
use Rattle.uv_machine.proofs.Reaching.{Reached-state_of}
use Rattle.uv_machine.proofs.Asking.{at_in}
use Rattle.uv_machine.proofs.Counting.{cell_is_one}
use Rattle.uv_machine.proofs.MadeKept.{stands_as_made}
use Rattle.uv_machine.proofs.Members as members
use Rattle.uv_machine.proofs.Members.{Passes-find, count_by-cons}

abbrev pub count_listed : ℕ → Option Object → ℕ
count_listed o slot = count_by (has_id o) (listed slot)

one_same : (b : Bool) → members.one_if b ≡ one_if b
one_same true = refl
one_same false = refl

count_one : (o : ℕ) (x : Object) → count_by (has_id o) (x ∷ []) ≡ one_if (x.id == o)
count_one o x = (let one = count_by-cons (has_id o) x [] in let same = one_same (has_id o x) in omega (arith, one, same))

id_found : (m : State) (i : ℕ) (x : Object) → object_with m i ≡ Some x → x.id ≡ i
id_found m i x e = eqb-true x.id i (Passes-find (has_id i) x m.objects e).test

doomed_count : (m : State) (o i : ℕ) (x : Object) (doomed : Bool) → is_doomed x.phase ≡ doomed → object_with m i ≡ Some x → count_listed o (if doomed then Some x else None) ≡ one_if ((i == o) && doomed)
doomed_count m o i x true e is = count_one o x ∙ ap (λ v. one_if (v == o)) (id_found m i x is) ∙ and_true (i == o)
  where
    and_true : (b : Bool) → one_if b ≡ one_if (b && true)
    and_true true = refl
    and_true false = refl
doomed_count m o i x false e is = and_false (i == o)
  where
    and_false : (b : Bool) → 0 ≡ one_if (b && false)
    and_false true = refl
    and_false false = refl

finish_count : (m : State) (o i : ℕ) (slot : Option Object) → object_with m i ≡ slot → count_listed o (if_doomed slot) ≡ one_if ((i == o) && is_doomed_object slot)
finish_count m o i None e = and_false (i == o)
  where
    and_false : (b : Bool) → 0 ≡ one_if (b && false)
    and_false true = refl
    and_false false = refl
finish_count m o i (Some x) e = doomed_count m o i x (is_doomed x.phase) refl e

finish_same : (m : State) (o i : ℕ) (here : Bool) → (i == o) ≡ here → one_if (here && is_doomed_object (object_with m i)) ≡ one_if (here && is_doomed_object (object_with m o))
finish_same m o i true e = ap (λ v. one_if (is_doomed_object (object_with m v))) (eqb-true i o e)
finish_same m o i false e = refl

none_count : (b : Bool) → 0 ≡ one_if (b && false)
none_count true = refl
none_count false = refl

step_count : (m : State) (o i : ℕ) (w : Word) → count_listed o (step_released w (object_with m i)) ≡ one_if ((i == o) && finishes m o w)
step_count m o i word.Reserve = none_count (i == o)
step_count m o i word.Look = none_count (i == o)
step_count m o i word.Make = none_count (i == o)
step_count m o i word.Commit = none_count (i == o)
step_count m o i word.Act = none_count (i == o)
step_count m o i word.Lock = none_count (i == o)
step_count m o i word.Check = none_count (i == o)
step_count m o i word.Finish = finish_count m o i (object_with m i) refl ∙ finish_same m o i (i == o) refl
step_count m o i word.Abort = none_count (i == o)
step_count m o i word.Free = none_count (i == o)
step_count m o i word.Exit = none_count (i == o)

gone_count : (m : State) (o i : ℕ) (slot : Option Object) → object_with m i ≡ slot → may_go_object m slot ≡ true → count_listed o slot ≡ one_if (i == o)
gone_count m o i None e may = absurd cc
gone_count m o i (Some x) e may = count_one o x ∙ ap (λ v. one_if (v == o)) (id_found m i x e)

entry_count : (m : State) (o : ℕ) (e : Entry) → Allowed m e → count_listed o (released_by m e) ≡ one_if (releases m o e)
entry_count m o (Open c f d a) allowed = refl
entry_count m o (Enter c f request a) allowed = refl
entry_count m o (Step c w i found a) allowed = step_count m o i w
entry_count m o (Unplug d) allowed = refl
entry_count m o (Tear f by) allowed = refl
entry_count m o (Kill i) allowed = refl
entry_count m o (Gone i kept) allowed = gone_count m o i (object_with m i) refl allowed
entry_count m o (Dissociated f) allowed = refl
entry_count m o (Closed f) allowed = refl

append_count : (o : ℕ) (slot : Option Object) (xs : List Object) → count_by (has_id o) (listed slot ++ xs) ≡ count_listed o slot + count_by (has_id o) xs
append_count o None xs = omega arith
append_count o (Some x) xs =
    let cons = count_by-cons (has_id o) x xs in
    let one = count_by-cons (has_id o) x [] in
    omega (arith, cons, one)

counts_from : (m : State) (h : List Entry) (o : ℕ) → IsLegalFrom m h → count_by (has_id o) (released_from m h) ≡ releases_from m o h
counts_from m [] o legal = refl
counts_from m (e ∷ h) o legal =
    let here = entry_count m o e legal.0 in
    let more = counts_from (after m e) h o legal.1 in
    let parts = append_count o (released_by m e) (released_from (after m e) h) in
    omega (arith, parts, here, more)

pub released_counts : ReleasedCounts
released_counts h o legal = counts_from start h o legal

-- A live cell is that of one object.

pub record HasLiveCell (kind : Kind) (index generation : ℕ) (x : Object) : Type 0 where
  pub same : x.kind ≡ kind
  pub place : x.index ≡ index
  pub life : x.generation ≡ generation

live_cell_parts : (kind : Kind) (index generation : ℕ) (x : Object) → has_live_cell kind index generation x ≡ true → HasLiveCell kind index generation x
live_cell_parts kind index generation x e =
    let first = and_parts (is_kind x.kind kind) ((x.index == index) && ((x.generation == generation) && (is_made x.phase || is_live x.phase))) e in
    let second = and_parts (x.index == index) ((x.generation == generation) && (is_made x.phase || is_live x.phase)) first.1 in
    let third = and_parts (x.generation == generation) (is_made x.phase || is_live x.phase) second.1 in
    record {
      same = is_kind-same x.kind kind first.0;
      place = eqb-true x.index index second.0;
      life = eqb-true x.generation generation third.0;
    }

pub live_cell_is_one : LiveCellIsOne
live_cell_is_one h kind index generation x y legal k k' e e' =
    let a = stands_as_made h x legal k in
    let b = stands_as_made h y legal k' in
    let p = live_cell_parts kind index generation x e in
    let q = live_cell_parts kind index generation y e' in
    let one : a.item ≡ b.item =
    cell_is_one h a.item b.item legal (at_in (made_in h) x.id a.item a.there) (at_in (made_in h) y.id b.item b.there)
    (sym a.same.kind ∙ p.same ∙ sym q.same ∙ b.same.kind)
    (sym a.same.index ∙ p.place ∙ sym q.place ∙ b.same.index)
    (sym a.same.generation ∙ p.life ∙ sym q.life ∙ b.same.generation) in
    same_object (state_of h) (Reached-state_of h legal) x y k k' (a.same.id ∙ ap (λ (v : Object). v.id) one ∙ sym b.same.id)
