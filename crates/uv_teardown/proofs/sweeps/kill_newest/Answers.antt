use Rattle.std.proofs.Common.{◌≡◌, Some, ap, sym, ◌∙◌}
use Rattle.std.proofs.lemmas.Option.{same_Some}
use Rattle.uv_machine.specs.declared.object.Object.{Object}
use Rattle.uv_machine.proofs.Sweeping.{may_kill-swept}
use Rattle.uv_teardown.proofs.Turned.{newest_there, newest_torn}
use Rattle.uv_teardown.proofs.sweeps.kill_newest.Goals as goal

pub kill-requires-clause-allowed : goal.kill-requires-clause-allowed
kill-requires-clause-allowed g c = may_kill-swept c.args.graph.now.history c.args.file c.args.tearer c.args.newest c.requires.swept c.requires.newest

pub kill-requires-clause-torn : goal.kill-requires-clause-torn
kill-requires-clause-torn g c = newest_torn c.args.graph.now.history c.args.file c.args.tearer c.args.newest c.requires.swept c.requires.newest

pub returns-clause-kills : goal.returns-clause-kills
returns-clause-kills g c =
    let hands = c.kill.ensures.hands in
    let there = newest_there c.args.graph.now.history c.args.file c.args.tearer c.args.newest c.requires.swept c.requires.newest in
    let same : c.args.newest ≡ hands.item = same_Some c.args.newest hands.item (sym there ∙ hands.there) in
    record {
      quiet = c.requires.quiet;
      hands = hands;
      newest = c.requires.newest ∙ ap (λ (x : Object). Some x) same;
      of_kind = sym (ap (λ (x : Object). x.kind) same);
      handle_is = sym (ap (λ (x : Object). x.handle) same);
    }
