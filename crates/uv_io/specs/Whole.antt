-- What reading all and writing all say of the source and the sink, where these tell their bytes.
use Rattle.std.specs.Prelude.{◌≡◌, ℕ, ◌+◌, ◌≤◌, List, length, take, Option}
use Rattle.std.specs.Io.KnownBytes.{Appends, Consumes, IsAtEnd}
use Rattle.uv_io.specs.declared.whole.ReadAll.{ReadAll}
use Rattle.uv_io.specs.declared.whole.ReadAll.TheVariants.{Bytes, ReadFault, TooLong, NoMemory}

-- some bytes of what was left have been read, at most so many
pub record ReadsPrefix (old new : Option (List ℕ)) (most : ℕ) : Type 0 where
  pub bytes : List ℕ
  pub consumed : Consumes old new bytes
  pub bound : length bytes ≤ most

-- exactly so many bytes of what was left have been read
pub record ReadsCount (old new : Option (List ℕ)) (count : ℕ) : Type 0 where
  pub bytes : List ℕ
  pub consumed : Consumes old new bytes
  pub exact : length bytes ≡ count

-- all that was left has been read, it is these bytes, and they are at most so many
pub record ReadsWhole (old new : Option (List ℕ)) (bytes : List ℕ) (most : ℕ) : Type 0 where
  pub consumed : Consumes old new bytes
  pub ended : IsAtEnd new
  pub bound : length bytes ≤ most

-- what each answer of read_all says of the source
abbrev pub ReadAllGives : Option (List ℕ) → Option (List ℕ) → ℕ → ReadAll → Type 0
ReadAllGives old new most (Bytes whole) = ReadsWhole old new whole.bytes most
ReadAllGives old new most ReadFault = ReadsPrefix old new most
ReadAllGives old new most TooLong = ReadsCount old new (most + 1)
ReadAllGives old new most NoMemory = ReadsPrefix old new (most + 1)

-- the first bytes of these were appended, and no others
pub record WritesPrefix (old new : Option (List ℕ)) (bytes : List ℕ) : Type 0 where
  pub count : ℕ
  pub bound : count ≤ length bytes
  pub appended : Appends old new (take count bytes)
