use Rattle.std.proofs.Common.{subst, sym}
use Rattle.uv_run.specs.declared.flights.Flights.{Flights}
use Rattle.uv_run.specs.Runs.{StaysSound}
use Rattle.uv_run.proofs.Turning.{event_stays}
use Rattle.uv_run.proofs.running.Run.after_event.Goals as goal

pub returns-clause-sound : goal.returns-clause-sound
returns-clause-sound c =
    let P : Flights → Type 0 = λ v. StaysSound c.args.self.now.flights v in
    subst P (sym c.in_ok-tell.ensures.flights) (event_stays c.args.actor c.args.self.now.flights c.event-heard.new.self c.event-heard.result c.event-heard.ensures.turned c.event-heard.ensures.moved)
