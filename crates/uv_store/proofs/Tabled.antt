-- One slot of one file's table changed.
use Rattle.std.proofs.Common.{◌≡◌, ◌≢◌, ℕ, ◌<◌, Bool, true, false, List, [], length, refl, ap, sym, ◌∙◌, subst}
use Rattle.std.specs.Prelude.{slice_set, ◌==◌, option_map}
use Rattle.std.proofs.lemmas.Bool.{eq-eqb, eqb-true}
use Rattle.std.proofs.lemmas.Option.{slice_get-get_or}
use Rattle.uv_num.specs.Place.{at_place}
use Rattle.uv_num.proofs.PlaceLaws.{slice_get-at_place_same, slice_get-at_place_other}
use Rattle.uv_machine.specs.declared.state.State.{State}
use Rattle.uv_handles.specs.declared.slot.Slot.{Slot}
use Rattle.uv_handles.specs.Table.{slot_in}
use Rattle.uv_handles.proofs.Changes.{slot_in-set_same, slot_in-set_other}
use Rattle.uv_store.specs.Tables.{table_in, table_at, slot_on, AreTables}

pub table_same : (tables : List (List Slot)) (f : ℕ) (g : List Slot → List Slot) → f < length tables → table_at (at_place tables f g) f ≡ g (table_at tables f)
table_same tables f g within =
    let there = slice_get-get_or tables f [] within in
    ap table_in (slice_get-at_place_same tables f g ∙ ap (option_map g) there) ∙ ap g (sym (ap table_in there))

pub table_other : (tables : List (List Slot)) (f k : ℕ) (g : List Slot → List Slot) → k ≢ f → table_at (at_place tables f g) k ≡ table_at tables k
table_other tables f k g apart = ap table_in (slice_get-at_place_other tables f k g apart)

module _ (tables : List (List Slot)) (m m' : State) (f n : ℕ) (slot : Slot) (within : f < length tables) (low : n < length (table_at tables f)) (are : AreTables tables m) (own : slot ≡ slot_on m' f n) (others : (k i : ℕ) → (k ≡ f → i ≡ n → ⊥) → slot_on m' k i ≡ slot_on m k i) where
  abbrev pub put : List Slot → List Slot
  put t = slice_set t n slot

  in_file : (i : ℕ) (b : Bool) → (i == n) ≡ b → slot_in (put (table_at tables f)) i ≡ slot_on m' f i
  in_file i true e =
      let same : i ≡ n = eqb-true i n e in
      let P : ℕ → Type 0 = λ v. slot_in (put (table_at tables f)) v ≡ slot_on m' f v in
      subst P (sym same) (slot_in-set_same (table_at tables f) n slot low ∙ own)
  in_file i false e =
      let apart : i ≢ n = λ same. (let yes = eq-eqb i n same in cc) in
      slot_in-set_other (table_at tables f) n i slot apart ∙ (are f i ∙ sym (others f i (λ file number. apart number)))

  by_file : (k i : ℕ) (b : Bool) → (k == f) ≡ b → slot_in (table_at (at_place tables f put) k) i ≡ slot_on m' k i
  by_file k i true e =
      let same : k ≡ f = eqb-true k f e in
      let P : ℕ → Type 0 = λ v. slot_in (table_at (at_place tables f put) v) i ≡ slot_on m' v i in
      subst P (sym same) (ap (λ t. slot_in t i) (table_same tables f put within) ∙ in_file i (i == n) refl)
  by_file k i false e =
      let apart : k ≢ f = λ same. (let yes = eq-eqb k f same in cc) in
      ap (λ t. slot_in t i) (table_other tables f k put apart) ∙ (are k i ∙ sym (others k i (λ file number. apart file)))

  -- the tables after the change are those of the state after it
  pub tables_set : AreTables (at_place tables f put) m'
  tables_set k i = by_file k i (k == f) refl
