-- What is kept where nothing has happened.
use Rattle.std.proofs.Common.{◌≡◌, ℕ, zero, suc, false, [], None, replicate, refl, ap, sym, ◌∙◌}
use Rattle.std.specs.Prelude.{slice_get, not, length}
use Rattle.std.specs.List.{list_any}
use Rattle.uv_num.specs.declared.limits.TheConstants.{ACTOR_PLACES, FILES}
use Rattle.uv_machine.specs.Plans.{reserves}
use Rattle.uv_machine.specs.States.{start}
use Rattle.uv_handles.specs.declared.slot.Slot.{Slot}
use Rattle.uv_handles.specs.declared.slot.Slot.TheVariants.{Free, Reserved, Published}
use Rattle.uv_handles.specs.Table.{slot_in, is_free, empty_table}
use Rattle.uv_handles.proofs.Changes.{is_taken_in-empty_table}
use Rattle.uv_store.specs.Counts.{count_in}
use Rattle.uv_store.specs.Stored.{IsStored}
use Rattle.uv_store.specs.Tables.{table_in, slot_for}

pub free_is : (s : Slot) → not (is_free s) ≡ false → s ≡ Free
free_is Free e = refl
free_is Reserved e = absurd cc
free_is (Published object) e = absurd cc

none_set : (f n k : ℕ) → list_any (reserves f n) (replicate k None) ≡ false
none_set f n zero = refl
none_set f n (suc k) = none_set f n k

size_of : {X : Type 0} (k : ℕ) (x : X) → length (replicate k x) ≡ k
size_of zero x = refl
size_of (suc k) x = ap suc (size_of k x)

all_free : (k f n : ℕ) → slot_in (table_in (slice_get (replicate k empty_table) f)) n ≡ Free
all_free zero f n = refl
all_free (suc k) zero n = free_is (slot_in empty_table n) (is_taken_in-empty_table n)
all_free (suc k) (suc f) n = all_free k f n

no_counts : (k f : ℕ) → count_in (slice_get (replicate k 0) f) ≡ 0
no_counts zero f = refl
no_counts (suc k) zero = refl
no_counts (suc k) (suc f) = no_counts k f

pub stored_start : IsStored start [] (replicate FILES empty_table) (replicate FILES 0) (replicate FILES 0)
unfolding start
stored_start = record {
  legal = record { history = []; legal = tt; is = refl };
  marked = refl;
  files = size_of FILES empty_table;
  tabled = λ f n. all_free FILES f n ∙ sym (ap (λ b. slot_for None b) (none_set f n ACTOR_PLACES));
  dooms = λ f. no_counts FILES f;
  stands = λ f. no_counts FILES f;
}
