-- What calls ask for: the operands of each, taken from the front, and the words after them.
use Rattle.std.specs.Prelude.{ℕ, nat_eq, List, codes, Option, Some, None, if◌then◌else◌}
use Rattle.std.specs.Cmp.Lexicographic.{pointwise}
use Rattle.uv_num.specs.Qp.{service_number}
use Rattle.uv_num.specs.declared.kind.Kind.{Kind}
use Rattle.uv_num.specs.declared.kind.Kind.TheVariants as kind
use Rattle.uv_num.specs.declared.qp.Service.TheVariants.{Rc, Ud}
use Rattle.uv_script.specs.Handles.{handle_word, may_handle_word}
use Rattle.uv_script.specs.Names.{Look}
use Rattle.uv_script.specs.Numbers.{number_of}
use Rattle.uv_script.specs.Places.{device_word}
use Rattle.uv_script.specs.Words.{first_as, then_take}
use Rattle.uv_script.specs.declared.form.Verb.{Verb}
use Rattle.uv_script.specs.declared.form.Verb.TheVariants.{AllocPd, CreateChannel, CreateCq, CreateSrq, CreateQp, CreateAh, RegMr, AllocMw, Destroy, BindMw}

-- a verb with its operands, and the words after them
abbrev pub Asks : Type 0
Asks = Option (Verb × List (List ℕ))

-- `rc` or `ud`
abbrev pub service_word : List ℕ → Option ℕ
service_word word =
    if pointwise nat_eq word (codes "rc") then Some (service_number Rc)
    else (if pointwise nat_eq word (codes "ud") then Some (service_number Ud) else None)

-- NUM H, where H may be `-`
abbrev pub cq_operands : Look → List (List ℕ) → Asks
cq_operands look words =
    then_take (first_as number_of words) (λ depth rest1.
    then_take (first_as (may_handle_word look) rest1) (λ channel rest2.
    Some (CreateCq depth channel, rest2)))

-- H NUM
abbrev pub srq_operands : Look → List (List ℕ) → Asks
srq_operands look words =
    then_take (first_as (handle_word look) words) (λ pd rest1.
    then_take (first_as number_of rest1) (λ depth rest2.
    Some (CreateSrq pd depth, rest2)))

-- H H H H S NUM NUM, where the fourth H may be `-`
abbrev pub qp_operands : Look → List (List ℕ) → Asks
qp_operands look words =
    then_take (first_as (handle_word look) words) (λ pd rest1.
    then_take (first_as (handle_word look) rest1) (λ send_cq rest2.
    then_take (first_as (handle_word look) rest2) (λ recv_cq rest3.
    then_take (first_as (may_handle_word look) rest3) (λ srq rest4.
    then_take (first_as service_word rest4) (λ service rest5.
    then_take (first_as number_of rest5) (λ send_depth rest6.
    then_take (first_as number_of rest6) (λ recv_depth rest7.
    Some (CreateQp pd send_cq recv_cq srq service send_depth recv_depth, rest7))))))))

-- H D
abbrev pub ah_operands : Look → List (List ℕ) → Asks
ah_operands look words =
    then_take (first_as (handle_word look) words) (λ pd rest1.
    then_take (first_as device_word rest1) (λ device rest2.
    Some (CreateAh pd device, rest2)))

-- H NUM NUM
abbrev pub mr_operands : Look → List (List ℕ) → Asks
mr_operands look words =
    then_take (first_as (handle_word look) words) (λ pd rest1.
    then_take (first_as number_of rest1) (λ length rest2.
    then_take (first_as number_of rest2) (λ access rest3.
    Some (RegMr pd length access, rest3))))

-- H
abbrev pub mw_operands : Look → List (List ℕ) → Asks
mw_operands look words = then_take (first_as (handle_word look) words) (λ pd rest1. Some (AllocMw pd, rest1))

-- H H NUM NUM NUM, where the second H may be `-`
abbrev pub bind_operands : Look → List (List ℕ) → Asks
bind_operands look words =
    then_take (first_as (handle_word look) words) (λ mw rest1.
    then_take (first_as (may_handle_word look) rest1) (λ mr rest2.
    then_take (first_as number_of rest2) (λ offset rest3.
    then_take (first_as number_of rest3) (λ length rest4.
    then_take (first_as number_of rest4) (λ access rest5.
    Some (BindMw mw mr offset length access, rest5))))))

-- the operands of the create of a kind
abbrev pub create_operands : Look → Kind → List (List ℕ) → Asks
create_operands look kind.Pd words = Some (AllocPd, words)
create_operands look kind.Channel words = Some (CreateChannel, words)
create_operands look kind.Cq words = cq_operands look words
create_operands look kind.Qp words = qp_operands look words
create_operands look kind.Srq words = srq_operands look words
create_operands look kind.Ah words = ah_operands look words
create_operands look kind.Mr words = mr_operands look words
create_operands look kind.Mw words = mw_operands look words

-- H, of any kind: whether it is of the verb's is the call's answer
abbrev pub destroy_operands : Look → Kind → List (List ℕ) → Asks
destroy_operands look kind words = then_take (first_as (handle_word look) words) (λ object rest1. Some (Destroy kind object, rest1))
