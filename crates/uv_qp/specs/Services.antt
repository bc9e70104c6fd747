-- Which operations a service has.
use Rattle.std.specs.Prelude.{◌≡◌, Bool, false, true}
use Rattle.uv_num.specs.declared.qp.Service.{Service}
use Rattle.uv_num.specs.declared.qp.Service.TheVariants.{Rc}
use Rattle.uv_num.specs.declared.qp.Service.TheVariants as service
use Rattle.uv_wr.specs.declared.work.Op.{Op}
use Rattle.uv_wr.specs.declared.work.Op.TheVariants.{Send, SendImm, Write, WriteImm, Read}
use Rattle.uv_wr.specs.declared.work.Op.TheVariants as op
use Rattle.uv_wr.specs.Works.{IsAddressed, Sending}

-- whether an operation is one of a service
abbrev pub fits_service : Service → Op → Bool
fits_service Rc Send = true
fits_service Rc (SendImm imm) = true
fits_service Rc (Write at key) = true
fits_service Rc (WriteImm at key imm) = true
fits_service Rc (Read at key) = true
fits_service Rc (op.Ud device qp qkey) = false
fits_service Rc (op.UdImm device qp qkey imm) = false
fits_service service.Ud Send = false
fits_service service.Ud (SendImm imm) = false
fits_service service.Ud (Write at key) = false
fits_service service.Ud (WriteImm at key imm) = false
fits_service service.Ud (Read at key) = false
fits_service service.Ud (op.Ud device qp qkey) = true
fits_service service.Ud (op.UdImm device qp qkey imm) = true

-- a send of a service: a datagram has a destination
pub record IsServed (kind : Service) (w : Sending) : Type 0 where
  pub fits : fits_service kind w.op ≡ true
  pub addressed : IsAddressed w.op
