-- What the syndrome of an acknowledge tells: IBA volume 1, 9.7.5.1 and 9.7.5.2.
use Rattle.std.specs.Prelude.{ℕ, ◌/◌, ◌%◌, ◌+◌, ◌==◌, ◌≡◌, ◌≤◌, if◌then◌else◌}
use Rattle.uv_packet.specs.declared.syndrome.Syndrome.{Syndrome}
use Rattle.uv_packet.specs.declared.syndrome.Syndrome.TheVariants.{Acknowledged, NotReady, Sequence, Invalid, Access, Operation, Unknown}
use Rattle.uv_packet.specs.declared.syndrome.TheConstants.{ACK, RNR, NAK_SEQUENCE, NAK_INVALID, NAK_ACCESS, NAK_OPERATION}

-- the code of a NAK
abbrev pub nak_told : ℕ → Syndrome
nak_told code =
    if code == 0 then Sequence
    else (if code == 1 then Invalid
    else (if code == 2 then Access
    else (if code == 3 then Operation
    else Unknown)))

-- the kind of an answer, bits 6 and 5
abbrev pub kind_told : ℕ → ℕ → Syndrome
kind_told kind code =
    if kind == 0 then Acknowledged
    else (if kind == 1 then NotReady
    else (if kind == 3 then nak_told code
    else Unknown))

abbrev pub syndrome_told : ℕ → Syndrome
syndrome_told syndrome = kind_told (syndrome / 32 % 4) (syndrome % 32)

-- each syndrome that is written tells what it means, a receiver that isn't ready with each code of a wait

pub record TellWhatTheyMean : Type 0 where
  pub ack : syndrome_told ACK ≡ Acknowledged
  pub not_ready : (timer : ℕ) → timer ≤ 31 → syndrome_told (RNR + timer) ≡ NotReady
  pub sequence : syndrome_told NAK_SEQUENCE ≡ Sequence
  pub invalid : syndrome_told NAK_INVALID ≡ Invalid
  pub access : syndrome_told NAK_ACCESS ≡ Access
  pub operation : syndrome_told NAK_OPERATION ≡ Operation
