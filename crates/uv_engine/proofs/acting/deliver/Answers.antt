use Rattle.std.proofs.Common.{sym, ◌∙◌}
use Rattle.uv_packet.specs.Packets.{content_of}
use Rattle.uv_qp.specs.declared.turns.TurnWord.TheVariants as word
use Rattle.uv_engine.specs.Acting.{arrival_action, is_here, only_word}
use Rattle.uv_engine.proofs.Finishing.{chosen_gives}
use Rattle.uv_engine.proofs.GoingOn.{same_goes_on}
use Rattle.uv_engine.proofs.acting.deliver.Goals as goal

pub returns-then-is_here-clause-gives : goal.returns-then-is_here-clause-gives
returns-then-is_here-clause-gives c =
    let l = c.args.lent.now in
    chosen_gives (is_here l.qp c.args.to) (arrival_action l c.args.from (content_of c.args.packet.now)) (only_word word.Dead l) l
    c.take_or_drop.result c.take_or_drop.new.lent (sym c.is_here.ensures ∙ c.if-is_here.true) c.take_or_drop.ensures.gives

pub returns-else-is_here-clause-goes_on : goal.returns-else-is_here-clause-goes_on
returns-else-is_here-clause-goes_on c = same_goes_on c.turns_go_on.ensures c.lent_regions_go_on.ensures c.args.lent.now
