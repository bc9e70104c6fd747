use Rattle.std.proofs.Common.{ap, sym, ◌∙◌, subst, [], ◌∷◌, ◌++◌}
use Rattle.std.specs.Prelude.{Some}
use Rattle.uv_order.specs.Names.{NameNobody}
use Rattle.uv_desk.proofs.Joining.{begins_at}
use Rattle.uv_desk.proofs.opening.open.Goals as goal

pub new-requires : goal.new-requires
new-requires g c =
    begins_at g.M.Machine.history g.M.Machine.own g.M.Machine.names c.of-about.result.value c.log_laws.ensures (subst (λ m. NameNobody g.M.Machine.names (g.M.Machine.history m)) (sym c.of-about.ensures) c.requires.unnamed) _
    (c.push_reserved.ensures.items ∙ (ap (λ l. l ++ Some c.args.machine ∷ []) c.in_ok-slots.ensures.items ∙ ap (λ m. Some m ∷ []) (sym c.of-about.ensures)))
