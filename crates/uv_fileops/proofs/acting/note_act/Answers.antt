use Rattle.std.proofs.Common.{subst}
use Rattle.uv_machine.specs.declared.entry.Entry.TheVariants as entry
use Rattle.uv_machine.specs.declared.entry.Answer.{Answer}
use Rattle.uv_machine.specs.declared.entry.Answer.TheVariants as answer
use Rattle.uv_machine.specs.declared.entry.Word.{Word}
use Rattle.uv_machine.specs.Histories.{Allowed, state_of}
use Rattle.uv_fileops.proofs.acting.note_act.Goals as goal

-- the act is refused with the errno that its answer tells
pub refuse-requires-clause-allowed : goal.refuse-requires-clause-allowed
refuse-requires-clause-allowed g c =
    let A : Answer → Type 0 = λ a. Allowed (state_of c.args.graph.now.history) (entry.Step c.args.client c.args.done.word c.args.done.object c.args.done.found a) in
    let W : Word → Type 0 = λ w. Allowed (state_of c.args.graph.now.history) (entry.Step c.args.client w c.args.done.object c.args.done.found (answer.Refused c.in-Refused.errno)) in
    subst W c.requires.word (subst A c.in-Refused.is c.requires.allowed)
