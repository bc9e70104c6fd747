use Rattle.uv_machine.proofs.Filing.{legal_domains}
use Rattle.uv_machine.proofs.laws.filed.legal_has_domains.Goals as goal

pub returns : goal.returns
returns c = legal_domains
