-- A queue pair that lets a packet in isn't broken.
use Rattle.std.proofs.Common.{◌≡◌, Bool, true, false, ◌&&◌, Option, None, Some, refl}
use Rattle.uv_num.specs.declared.qp.QpState.{QpState}
use Rattle.uv_num.specs.declared.qp.QpState.TheVariants.{Reset, Init, Rtr, Rts, Err}
use Rattle.uv_packet.specs.declared.opcode.Opcode.{Opcode}
use Rattle.uv_packet.specs.Opcodes.{opcode_of}
use Rattle.uv_packet.specs.Packets.{Content}
use Rattle.uv_qp.specs.Gate.{is_opcode_of, is_response, lets_in, takes_opcode, takes_packet}
use Rattle.uv_qp.specs.Pairs.{Paired, is_broken}

right_is : (a b : Bool) → a && b ≡ true → b ≡ true
right_is true b h = h
right_is false b h = cc

takes_unbroken : (s : QpState) (response : Bool) → takes_packet s response ≡ true → is_broken s ≡ false
takes_unbroken Reset response h = refl
takes_unbroken Init response h = refl
takes_unbroken Rtr response h = refl
takes_unbroken Rts response h = refl
takes_unbroken Err response h = cc

takes_by : (p : Paired) (o : Option Opcode) → takes_opcode p o ≡ true → is_broken p.state ≡ false
takes_by p None h = cc
takes_by p (Some o) h = takes_unbroken p.state (is_response o) (right_is (is_opcode_of p.service o) (takes_packet p.state (is_response o)) h)

pub unbroken : (p : Paired) (c : Content) → lets_in p c ≡ true → is_broken p.state ≡ false
unbroken p c h = takes_by p (opcode_of c.opcode) (right_is _ (takes_opcode p (opcode_of c.opcode)) h)
