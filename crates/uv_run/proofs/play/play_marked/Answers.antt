use Rattle.std.proofs.Common.{List, ap, filter, map, subst, sym, ◌∙◌}
use Rattle.uv_machine.specs.declared.entry.Entry.{Entry}
use Rattle.uv_machine.specs.declared.object.Object.{Object}
use Rattle.uv_machine.specs.Files.{AreOver}
use Rattle.uv_machine.specs.Histories.{state_of}
use Rattle.uv_machine.specs.Laws.{IsIdle}
use Rattle.uv_model.specs.Standing.{is_left, left_of}
use Rattle.uv_report.specs.declared.record.Said.{Said}
use Rattle.uv_run.specs.Follows.{AnswersAll, AreAmong, said_of, start_stand}
use Rattle.uv_run.specs.Marks.{PlaysMarked}
use Rattle.uv_run.specs.Runs.{stand_of}
use Rattle.uv_run.specs.Stand.{Stand}
use Rattle.uv_run.proofs.Answering.{answers_all}
use Rattle.uv_run.proofs.Marking.{plays_of}
use Rattle.uv_run.proofs.Tellings.{tells_all}
use Rattle.uv_run.proofs.play.play_marked.Goals as goal

pub returns : goal.returns
returns c =
    let lines = c.args.script.now in
    let played = stand_of c.play_all.new.self in
    let finished = stand_of c.finish.new.self in
    let ended = stand_of c.end.new.self in
    let M : Stand → Type 0 = λ v. PlaysMarked v lines played c.in_ok-marks.marks in
    let marked = subst M c.in_ok-run.ensures.stand c.in_ok-marks.ensures.plays in
    let asked = marked.plays.asked in
    let plays = plays_of start_stand lines played marked.begun marked.plays in
    let history = c.into_record.ensures.history in
    let replies = c.into_record.ensures.replies in
    let I : List Entry → Type 0 = λ v. IsIdle (state_of v) in
    let O : List Entry → Type 0 = λ v. AreOver (state_of v) in
    let A : List Entry → Type 0 = λ v. AnswersAll asked ended.replies v in
    let T : List Said → Type 0 = λ v. AreAmong (map said_of ended.replies) v in
    record {
      follows = record {
        played = played;
        finished = finished;
        ended = ended;
        asked = asked;
        plays = plays;
        finishes = c.in_ok-finish.ensures.finishes;
        left = c.into_record.ensures.left ∙ c.in_ok-left.ensures ∙ ap (λ (v : List Object). map left_of (filter is_left v)) c.objects.ensures;
        ends = c.in_ok-end.ensures.ends;
        history = history;
        replies = replies;
        legal = c.into_record.ensures.legal;
        idle = subst I (sym history) c.in_ok-end.ensures.idle;
        over = subst O (sym history) c.in_ok-end.ensures.over;
        answers = subst A (sym history) (answers_all lines played finished ended asked c.in_ok-marks.ensures.ranges c.in_ok-end.ensures.sound.sound.world.seated.legal
            (λ b first last. c.in_ok-end.ensures.sound.idle b (c.in_ok-finish.ensures.idle b first last)) plays c.in_ok-finish.ensures.finishes c.in_ok-end.ensures.ends);
        tells = subst T (sym replies) (tells_all lines played finished ended asked plays c.in_ok-finish.ensures.finishes c.in_ok-end.ensures.ends);
      };
      marked = marked;
    }
