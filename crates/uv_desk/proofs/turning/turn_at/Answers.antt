use Rattle.std.proofs.Common.{rules, ap, sym, subst, ◌∙◌, ◌∷◌}
use Rattle.std.specs.Prelude.{Some}
use Rattle.atomic_table.specs.Table.{rest}
use Rattle.uv_order.specs.Names.{NameOnly}
use Rattle.uv_desk.proofs.Stepping.{passes}
use Rattle.uv_desk.proofs.Calls.{turned}
use Rattle.uv_desk.proofs.turning.turn_at.Goals as goal

pub fetch_add-requires : goal.fetch_add-requires
fetch_add-requires g c =
    let t = c.take-machine.ensures.took in
    let e = c.exchange.ensures.3 in
    let a = c.apply-output.ensures in
    let m = c.apply-output.new.self in
    let n_is = ap (λ me. me.0.number) e ∙ (ap (λ me. me.0.number) t.2 ∙ c.requires.ready.1) in (
      search rules,
      search rules,
      passes g.M.Machine.history g.M.Machine.own g.M.Machine.names _ c.log_laws.ensures _ _ _ c.take-machine.result m (ap (λ me. me.0.numbered) e ∙ (ap (λ me. me.0.numbered) t.2 ∙ c.requires.ready.0.0)) (ap (λ me. me.0.held) e ∙ ap (λ me. me.0.held) t.2) (ap (λ me. me.1) e ∙ ap (λ me. (0, Some m) ∷ rest me.1) t.2) a.answer.0 a.answer.3
          (subst (λ n. NameOnly g.M.Machine.names n a.answer.0) (sym n_is) a.answer.2) (λ n ne. a.others n (λ q. ne (q ∙ sym n_is))),
    )

pub returns : goal.returns
returns g c =
    let t = c.take-machine.ensures.took in
    let e = c.exchange.ensures.3 in
    let a = c.apply-output.ensures in
    let m = c.apply-output.new.self in
    let n_is = sym c.requires.ready.1 in
    let r = turned c.log_laws.ensures g.M.Machine.history g.M.Machine.own g.M.Machine.names g.M.Machine.answers c.args.chair.now.me _ _ _ c.take-machine.result m c.args.input c.apply-output.result t (ap (λ me. me.0) e) (ap (λ me. me.1) e ∙ ap (λ me. (0, Some m) ∷ rest me.1) t.2) c.fetch_add.ensures.2
    a.answer.0 a.answer.1 (subst (λ n. NameOnly g.M.Machine.names n a.answer.0) n_is a.answer.2) a.answer.3
    (subst (λ n. g.M.Machine.answers (g.M.Machine.history c.take-machine.result) n (g.M.Machine.own c.take-machine.result n) c.args.input c.apply-output.result a.answer.0 (g.M.Machine.own m n)) n_is a.answer.4) in
    record {
      same = search rules;
      answer = r.0;
      kept = r.1;
    }
