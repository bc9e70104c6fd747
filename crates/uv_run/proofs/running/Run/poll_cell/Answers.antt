use Rattle.std.proofs.Common.{ap, ◌∙◌, ℕ, List, map}
use Rattle.uv_wr.specs.declared.completion.Completion.{Completion}
use Rattle.uv_report.specs.declared.saying.Saying.TheVariants as saying
use Rattle.uv_run.specs.DataPath.{poll_text, with_texts}
use Rattle.uv_run.specs.Runs.{stand_of}
use Rattle.uv_run.specs.Sound.{site_of}
use Rattle.uv_run.specs.Stand.{Stand}
use Rattle.uv_run.proofs.DataPath.{holding_is, polls_told, stays_same}
use Rattle.uv_run.proofs.RunSounds.{on_ok}
use Rattle.uv_run.proofs.running.Run.poll_cell.Goals as goal

pub returns-clause-shown : goal.returns-clause-shown
returns-clause-shown c =
    let s = stand_of c.args.self.now in
    let f = c.poll_up_to.new.self in
    let e = c.in_ok-taken.ensures in
    let more : List Completion → Stand = λ xs. with_texts (stand_of c.say.new.self) c.args.line (map saying.Completed xs) in
    on_ok c.say_completions.result _ _
    (λ rest. polls_told s (let t : Stand = record s { site = site_of f } in t) (stand_of c.say.new.self) (stand_of c.say_completions.new.self) c.args.line (site_of f).held c.in_ok-taken.taken c.in_ok-taken.last c.poll_text.result _ e.polls
    (holding_is s (site_of f) (site_of f).held e.site) (c.poll_text.ensures ∙ ap (λ (k : ℕ). poll_text k c.in_ok-taken.last) c.len.ensures) c.in_ok-say.ensures.said (rest ∙ ap more c.as_slice.ensures)) c.say_completions.ensures.said

pub returns-clause-sound : goal.returns-clause-sound
returns-clause-sound c =
    on_ok c.say_completions.result _ _ (λ same. stays_same c.args.self.now.flights c.poll_up_to.new.self c.say_completions.new.self.flights c.in_ok-taken.ensures.sound (same ∙ c.in_ok-say.ensures.flights)) c.say_completions.ensures.flights
