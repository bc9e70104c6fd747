-- Where the machine's files are over, all are.
use Rattle.std.proofs.Common.{◌≡◌, ℕ, ◌<◌, true, List, ap, subst, ⊎_elim}
use Rattle.std.proofs.lemmas.Option.{slice_get_cases}
use Rattle.uv_num.specs.declared.limits.TheConstants.{FILES}
use Rattle.uv_machine.specs.declared.entry.Entry.{Entry}
use Rattle.uv_machine.specs.States.{phase_in, phase_of}
use Rattle.uv_machine.specs.Files.{AreOver}
use Rattle.uv_machine.specs.Filed.{is_over}
use Rattle.uv_machine.specs.Histories.{IsLegal, state_of}
use Rattle.uv_machine.proofs.Reaching.{Reached-state_of}

pub over_all : (h : List Entry) → IsLegal h → ((f : ℕ) → f < FILES → is_over (phase_of (state_of h) f) ≡ true) → AreOver (state_of h)
over_all h legal low f =
    let m = state_of h in
    let long = (Reached-state_of h legal).files in
    ⊎_elim
    (λ some. low f (subst (λ (n : ℕ). f < n) long some.1))
    (λ past. ap (λ s. is_over (phase_in s)) past.1)
    (slice_get_cases m.files f).1
