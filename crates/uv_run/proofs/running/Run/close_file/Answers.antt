use Rattle.std.proofs.Common.{ap, subst, sym, ◌∙◌}
use Rattle.uv_run.specs.declared.reply.Telling.TheVariants.{Dying}
use Rattle.uv_run.specs.Runs.{stand_of}
use Rattle.uv_run.specs.Site.{Turned, closes}
use Rattle.uv_run.specs.Sound.{site_of}
use Rattle.uv_run.specs.Stand.{Stand}
use Rattle.uv_run.specs.Turns.{RunsOut}
use Rattle.uv_run.specs.declared.flights.Flights.{Flights}
use Rattle.uv_run.specs.Sound.{Moved}
use Rattle.uv_run.proofs.RunSounds.{close_stays, on_both, on_ok, stays_then, waits_from}
use Rattle.uv_run.proofs.running.Run.close_file.Goals as goal

pub returns-clause-sound : goal.returns-clause-sound
returns-clause-sound c =
    let old = c.args.self.now.flights in
    let P : Flights → Type 0 = λ v. Moved c.args.client v c.begin_close-heard.new.self in
    let Q : Flights → Type 0 = λ v. Moved c.args.client old v in
    let moved : Moved c.args.client old c.tell.new.self.flights = subst Q (sym c.in_ok-tell.ensures.flights) (subst P c.set_begun.ensures.flights c.begin_close-heard.ensures.moved) in
    on_both c.run_out.result _ _ _
    (λ runs stays. close_stays c.args.client old c.tell.new.self.flights c.run_out.new.self.flights moved (stays_then c.tell.new.self.flights c.go_on.new.self.flights c.run_out.new.self.flights c.in_ok-go_on.ensures.sound stays) runs.ended)
    c.run_out.ensures.runs c.run_out.ensures.sound

pub returns-clause-closes : goal.returns-clause-closes
returns-clause-closes c =
    let turned : Turned = record { site = site_of c.begin_close-heard.new.self; heard = c.begin_close-heard.result } in
    let is = c.begin_close-heard.ensures.closes ∙ ap (λ (w : Flights). closes (site_of w) c.args.client c.args.file) c.set_begun.ensures.flights in
    let go =
    waits_from Dying (stand_of c.args.self.now) (stand_of c.set_begun.new.self) (stand_of c.tell.new.self) (stand_of c.go_on.new.self) c.args.client c.args.line turned (closes (site_of c.args.self.now.flights) c.args.client c.args.file) c.awaited.result
    c.set_begun.ensures.stand is c.in_ok-tell.ensures.told c.awaited.ensures c.in_ok-go_on.ensures.stand
    in
    let P : Stand → Type 0 = λ v. RunsOut Dying v c.args.client (stand_of c.run_out.new.self) in
    on_ok c.run_out.result _ _ (λ runs. subst P go runs) c.run_out.ensures.runs
