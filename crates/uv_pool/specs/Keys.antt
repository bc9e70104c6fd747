-- The keys of regions and windows: a pool index in the upper bits, and a variant in the lower ones.
use Rattle.std.specs.Prelude.{ℕ, Bool, true, false, ◌+◌, ◌-◌, ◌*◌, ◌/◌, ◌%◌, ◌&&◌, nat_le, nat_lt, Option, Some, None, if◌then◌else◌}
use Rattle.uv_num.specs.declared.kind.Kind.{Kind}
use Rattle.uv_num.specs.declared.kind.Kind.TheVariants.{Pd, Channel, Cq, Qp, Srq, Ah, Mr, Mw}
use Rattle.uv_num.specs.declared.limits.TheConstants.{CELLS, FIRST_MR_INDEX, FIRST_MW_INDEX, KEY_VARIANTS}

-- whether objects of the kind have keys
abbrev pub has_keys : Kind → Bool
has_keys Pd = false
has_keys Channel = false
has_keys Cq = false
has_keys Qp = false
has_keys Srq = false
has_keys Ah = false
has_keys Mr = true
has_keys Mw = true

-- the pool index of the object in cell 0; 0, which is no key's, where objects of the kind have none
abbrev pub first_pool_index : Kind → ℕ
first_pool_index Pd = 0
first_pool_index Channel = 0
first_pool_index Cq = 0
first_pool_index Qp = 0
first_pool_index Srq = 0
first_pool_index Ah = 0
first_pool_index Mr = FIRST_MR_INDEX
first_pool_index Mw = FIRST_MW_INDEX

-- the key of the object in a cell, at a generation
abbrev pub key_number : Kind → ℕ → ℕ → ℕ
key_number kind index generation = (first_pool_index kind + index) * KEY_VARIANTS + generation % KEY_VARIANTS

-- whether a pool index is that of a cell of the kind
abbrev pub is_pool_index : Kind → ℕ → Bool
is_pool_index kind n = nat_le (first_pool_index kind) n && nat_lt n (first_pool_index kind + CELLS)

-- the kind and the cell of a pool index, with a variant
abbrev pub named : ℕ → ℕ → Option (Kind × ℕ × ℕ)
named n variant =
    if is_pool_index Mr n
    then Some (Mr, n - FIRST_MR_INDEX, variant)
    else (if is_pool_index Mw n then Some (Mw, n - FIRST_MW_INDEX, variant) else None)

-- what a key names: a kind, a cell and a variant
abbrev pub key_parts : ℕ → Option (Kind × ℕ × ℕ)
key_parts key = named (key / KEY_VARIANTS) (key % KEY_VARIANTS)
