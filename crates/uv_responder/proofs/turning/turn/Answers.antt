use Rattle.uv_responder.proofs.turning.turn.Goals as goal

pub returns-in-Some-clause-turned : goal.returns-in-Some-clause-turned
returns-in-Some-clause-turned c = rw c.in-Some.is c.turn_shared.ensures.turned
