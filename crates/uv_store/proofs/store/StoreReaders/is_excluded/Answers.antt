use Rattle.std.proofs.Common.{◌∙◌, ap}
use Rattle.uv_store.specs.Marks.{alone_in}
use Rattle.uv_store.proofs.Reading.{alone_reads}
use Rattle.uv_store.proofs.store.StoreReaders.is_excluded.Goals as goal

pub returns : goal.returns
returns c = c.is_alone.ensures ∙ (ap alone_in c.mark_of.ensures.mark ∙ alone_reads _ c.mark_of.ensures.legal c.args.id)
