use Rattle.std.proofs.Common.{◌∙◌, ap}
use Rattle.uv_store.specs.Marks.{used_in}
use Rattle.uv_store.proofs.Reading.{used_reads}
use Rattle.uv_store.proofs.store.StoreReaders.has_users.Goals as goal

pub returns : goal.returns
returns c = c.is_used.ensures ∙ (ap used_in c.mark_of.ensures.mark ∙ used_reads _ c.mark_of.ensures.legal c.args.id)
