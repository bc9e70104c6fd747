-- A script that is left is run, where neither the source nor the sink has a fault.
use Rattle.std.proofs.Common.{ℕ, ◌≡◌, ◌+◌, ◌≤◌, List, ◌++◌, Option, None, Some, Ok, Err, length, ap, sym, ◌∙◌, append-nil, arith, length-append, inl, inr}
use Rattle.std.specs.Io.KnownBytes.{Consumes, IsAtEnd}
use Rattle.uv_num.specs.declared.limits.TheConstants.{SCRIPT_BYTES}
use Rattle.uv_io.specs.Faults.{Rose}
use Rattle.uv_io.specs.Whole.{ReadsCount}
use Rattle.uv_script.specs.Script.{script_of}
use Rattle.uv_run.specs.Outcome.{RefusesScript, IsScriptLeft, IsStepsStatus, IsRunOrNoMemory}
use Rattle.uv_run.specs.Wanted.{mode_of}
use Rattle.uv_run.specs.declared.words.Wanted.TheVariants.{Steps}

-- bytes that were read to the end are all that was left
all_left : (old new : Option (List ℕ)) (bytes known : List ℕ) → old ≡ Some known → Consumes old new bytes → IsAtEnd new → bytes ≡ known
all_left None new bytes known is consumed ended = cc
all_left (Some xs) None bytes known is consumed ended = absurd consumed
all_left (Some xs) (Some ys) bytes known is consumed ended =
    let same : xs ≡ known = cc in
    sym (append-nil bytes) ∙ (ap (λ v. bytes ++ v) (sym ended) ∙ (sym consumed ∙ same))

-- bytes of what was left are no more than it was
no_more : (old new : Option (List ℕ)) (bytes known : List ℕ) → old ≡ Some known → Consumes old new bytes → length bytes ≤ length known
no_more None new bytes known is consumed = cc
no_more (Some xs) None bytes known is consumed = absurd consumed
no_more (Some xs) (Some ys) bytes known is consumed =
    let same : known ≡ bytes ++ ys = let e : xs ≡ known = cc in sym e ∙ consumed in
    omega (arith, ap length same, length-append bytes ys)

-- a script isn't refused
no_refusal : (old new written rewritten : Option (List ℕ)) (before now : ℕ) → IsScriptLeft Steps old → RefusesScript Steps old new written rewritten before now → ⊥
no_refusal old new written rewritten before now left refuses =
    let same : refuses.bytes ≡ left.bytes = all_left old new refuses.bytes left.bytes left.known refuses.whole.consumed refuses.whole.ended in
    let script : script_of (mode_of Steps) refuses.bytes ≡ script_of (mode_of Steps) left.bytes = ap (script_of (mode_of Steps)) same in
    let both : Err refuses.tells.line ≡ Ok left.lines = sym refuses.tells.script ∙ (script ∙ left.script) in
    cc

-- it isn't too long
no_length : (old new : Option (List ℕ)) → IsScriptLeft Steps old → ReadsCount old new (SCRIPT_BYTES + 1) → ⊥
no_length old new left count =
    let less : length count.bytes ≤ length left.bytes = no_more old new count.bytes left.bytes left.known count.consumed in
    omega (arith, less, left.bound, count.exact)

pub run_or_no_memory : (status : ℕ) (old new written rewritten : Option (List ℕ)) (read reread wrote rewrote : ℕ) → IsStepsStatus status → (status ≡ 1 → RefusesScript Steps old new written rewritten wrote rewrote) → (status ≡ 3 → Rose read reread) → (status ≡ 4 → Rose wrote rewrote) → (status ≡ 6 → ReadsCount old new (SCRIPT_BYTES + 1)) → IsScriptLeft Steps old → (Rose read reread → ⊥) → (Rose wrote rewrote → ⊥) → IsRunOrNoMemory status
run_or_no_memory status old new written rewritten read reread wrote rewrote (inl (inl (inl done))) fault read_fault write_fault long left quiet still = inl done
run_or_no_memory status old new written rewritten read reread wrote rewrote (inl (inl (inr one))) fault read_fault write_fault long left quiet still = absurd (no_refusal old new written rewritten wrote rewrote left (fault one))
run_or_no_memory status old new written rewritten read reread wrote rewrote (inl (inr (inl four))) fault read_fault write_fault long left quiet still = absurd (still (write_fault four))
run_or_no_memory status old new written rewritten read reread wrote rewrote (inl (inr (inr five))) fault read_fault write_fault long left quiet still = inr five
run_or_no_memory status old new written rewritten read reread wrote rewrote (inr (inl three)) fault read_fault write_fault long left quiet still = absurd (quiet (read_fault three))
run_or_no_memory status old new written rewritten read reread wrote rewrote (inr (inr six)) fault read_fault write_fault long left quiet still = absurd (no_length old new left (long six))
