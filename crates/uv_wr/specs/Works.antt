-- Works: what they hold, and which are refused.
use Rattle.std.specs.Prelude.{ℕ, ◌<◌, ◌≤◌, nat_le, Bool, ◌&&◌, Option, Some, None, List, length, if◌then◌else◌}
use Rattle.std.specs.List.{sum_by}
use Rattle.uv_num.specs.declared.limits.TheConstants.{WORK_PARTS, WORK_BYTES, DEVICES, QP_NUMBERS}
use Rattle.uv_wr.specs.declared.work.Sge.{Sge}
use Rattle.uv_wr.specs.declared.work.Op.{Op}
use Rattle.uv_wr.specs.declared.work.Op.TheVariants.{Send, SendImm, Write, WriteImm, Read, Ud, UdImm}

-- a work of a send queue
pub record Sending : Type 0 where
  pub id : ℕ
  pub op : Op
  pub solicited : Bool
  pub parts : List Sge

-- a work of a receive queue
pub record Receiving : Type 0 where
  pub id : ℕ
  pub parts : List Sge

abbrev pub part_length : Sge → ℕ
part_length part = part.length

-- the bytes of all parts
abbrev pub whole_length : List Sge → ℕ
whole_length parts = sum_by part_length parts

-- whether a work may have these parts
abbrev pub parts_fit : List Sge → Bool
parts_fit parts = nat_le (length parts) WORK_PARTS && nat_le (whole_length parts) WORK_BYTES

-- the parts are few enough and short enough for a work
pub record AreParts (parts : List Sge) : Type 0 where
  pub few : length parts ≤ WORK_PARTS
  pub short : whole_length parts ≤ WORK_BYTES

-- a device of the machine, and the number of a queue pair there
pub record IsDestination (device qp : ℕ) : Type 0 where
  pub known : device < DEVICES
  pub numbered : qp < QP_NUMBERS

-- a datagram has a destination
abbrev pub IsAddressed : Op → Type 0
IsAddressed Send = Unit {0}
IsAddressed (SendImm imm) = Unit {0}
IsAddressed (Write at key) = Unit {0}
IsAddressed (WriteImm at key imm) = Unit {0}
IsAddressed (Read at key) = Unit {0}
IsAddressed (Ud device qp qkey) = IsDestination device qp
IsAddressed (UdImm device qp qkey imm) = IsDestination device qp

-- what a send work does, with this device where a datagram has one
abbrev pub op_to : ℕ → Op → Op
op_to device Send = Send
op_to device (SendImm imm) = SendImm imm
op_to device (Write at key) = Write at key
op_to device (WriteImm at key imm) = WriteImm at key imm
op_to device (Read at key) = Read at key
op_to device (Ud other qp qkey) = Ud device qp qkey
op_to device (UdImm other qp qkey imm) = UdImm device qp qkey imm

-- the send work with this device where it is a datagram
abbrev pub sending_to : ℕ → Sending → Sending
sending_to device w = record w { op = op_to device w.op }

-- the send work of these parts, if they fit one
abbrev pub sending : ℕ → Op → Bool → List Sge → Option Sending
sending id op solicited parts = if parts_fit parts then Some (record { id = id; op = op; solicited = solicited; parts = parts }) else None

-- the receive work of these parts, if they fit one
abbrev pub receiving : ℕ → List Sge → Option Receiving
receiving id parts = if parts_fit parts then Some (record { id = id; parts = parts }) else None
