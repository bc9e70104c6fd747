-- Keys and what they name; deeds that are planted and buried.
use Rattle.std.specs.Prelude.{ℕ, ◌≡◌, ◌<◌, ◌%◌, true, List, Some}
use Rattle.uv_num.specs.declared.kind.Kind.{Kind}
use Rattle.uv_num.specs.declared.limits.TheConstants.{CELLS, KEY_VARIANTS}
use Rattle.uv_num.specs.declared.identity.Identity.{Identity}
use Rattle.uv_pool.specs.declared.deed.Life.{Life}
use Rattle.uv_pool.specs.Deeds.{DeedFacts, IsForNew, IsPlantedFor, IsBuried, after_planting, after_burial}
use Rattle.uv_pool.specs.Keys.{has_keys, key_number, key_parts}

-- A key names what it was made of. Of the generation it has what is left over by the number of variants.

abbrev pub KeyIsReadBack : Type 0
KeyIsReadBack =
    (kind : Kind) (index generation : ℕ) → has_keys kind ≡ true → index < CELLS
    → key_parts (key_number kind index generation) ≡ Some (kind, index, generation % KEY_VARIANTS)

-- What a key names has a key, and this is it.

pub record Names (key : ℕ) (kind : Kind) (index variant : ℕ) : Type 0 where
  pub keyed : has_keys kind ≡ true
  pub cell : index < CELLS
  pub narrow : variant < KEY_VARIANTS
  pub makes : key_number kind index variant ≡ key

abbrev pub KeyOfWhatItNames : Type 0
KeyOfWhatItNames = (key : ℕ) (kind : Kind) (index variant : ℕ) → key_parts key ≡ Some (kind, index, variant) → Names key kind index variant

-- A deed that goes out for a new object comes back planted for it, with its life told if lives are told; one that goes out
-- planted comes back buried, and tells no life more.

abbrev pub NewIsPlanted : Type 0
NewIsPlanted =
    (t : DeedFacts) (x : Identity) (i g : ℕ) (lives : List Life) → IsForNew t x i g lives → IsPlantedFor (after_planting x t) x i g lives

abbrev pub PlantedIsBuried : Type 0
PlantedIsBuried =
    (t : DeedFacts) (x : Identity) (i g : ℕ) (lives : List Life) → IsPlantedFor t x i g lives → IsBuried (after_burial t) x.kind i g lives
