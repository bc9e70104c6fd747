-- What a responder answers: acknowledge packets (IBA volume 1, 9.7.5.1 and 9.7.5.2; `send_ack` of `rxe_resp.c`).
use Rattle.std.specs.Prelude.{ℕ, ◌+◌, ◌-◌, ◌%◌, Bool, false, if◌then◌else◌, Option, None, Some, List, [], ◌∷◌}
use Rattle.uv_num.specs.declared.limits.TheConstants.{PSNS}
use Rattle.uv_packet.specs.Opcodes.{opcode_number}
use Rattle.uv_packet.specs.declared.opcode.Opcode.TheVariants as opcode
use Rattle.uv_packet.specs.Packets.{Content}
use Rattle.uv_qp.specs.declared.gate.TheConstants.{DEFAULT_PKEY}
use Rattle.uv_responder.specs.declared.answering.Told.{Told}

-- a syndrome, and the PSN that it is told of
abbrev pub telling : ℕ → ℕ → Option Told
telling syndrome psn = Some (record { syndrome = syndrome; psn = psn })

-- only where the packet asks for it
abbrev pub telling_if : Bool → ℕ → ℕ → Option Told
telling_if asked syndrome psn = if asked then telling syndrome psn else None

-- the PSN before another
abbrev pub psn_before : ℕ → ℕ
psn_before psn = (psn + (PSNS - 1)) % PSNS

-- the acknowledge packet
abbrev pub acknowledge : ℕ → ℕ → Told → Content
acknowledge dest msn t = record {
  opcode = opcode_number opcode.Acknowledge;
  solicited = false;
  migrated = false;
  pkey = DEFAULT_PKEY;
  dest = dest;
  ack = false;
  psn = t.psn;
  reth = None;
  aeth = Some (record { syndrome = t.syndrome; msn = msn });
  imm = None;
  ieth = None;
  deth = None;
  payload = [];
}

-- the packets of an answer: one, or none
abbrev pub answer_packets : ℕ → ℕ → Option Told → List Content
answer_packets dest msn None = []
answer_packets dest msn (Some t) = acknowledge dest msn t ∷ []

-- the device that they go to, and 0 where there is none
abbrev pub answers_to : ℕ → Option Told → ℕ
answers_to device None = 0
answers_to device (Some t) = device
