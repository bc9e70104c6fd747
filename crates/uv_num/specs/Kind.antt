-- The tables of the kinds.
use Rattle.std.specs.Prelude.{ℕ, List, codes}
use Rattle.uv_num.specs.declared.kind.Kind.{Kind}
use Rattle.uv_num.specs.declared.kind.Kind.TheVariants.{Pd, Channel, Cq, Qp, Srq, Ah, Mr, Mw}

-- the object number of a kind
abbrev pub kind_number : Kind → ℕ
kind_number Pd = 1
kind_number Channel = 2
kind_number Cq = 3
kind_number Qp = 4
kind_number Srq = 5
kind_number Ah = 6
kind_number Mr = 7
kind_number Mw = 8

-- how far up a kind stands in the graph of uses
abbrev pub kind_rank : Kind → ℕ
kind_rank Pd = 1
kind_rank Channel = 1
kind_rank Cq = 2
kind_rank Qp = 3
kind_rank Srq = 2
kind_rank Ah = 2
kind_rank Mr = 2
kind_rank Mw = 3

-- the row of a kind in a table by kinds
abbrev pub kind_place : Kind → ℕ
kind_place Pd = 0
kind_place Channel = 1
kind_place Cq = 2
kind_place Qp = 3
kind_place Srq = 4
kind_place Ah = 5
kind_place Mr = 6
kind_place Mw = 7

-- the name of a kind in scripts and reports
abbrev pub kind_name : Kind → List ℕ
kind_name Pd = codes "pd"
kind_name Channel = codes "channel"
kind_name Cq = codes "cq"
kind_name Qp = codes "qp"
kind_name Srq = codes "srq"
kind_name Ah = codes "ah"
kind_name Mr = codes "mr"
kind_name Mw = codes "mw"
