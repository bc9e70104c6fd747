use Rattle.std.proofs.Common.{◌∙◌, List, refl, sym, subst, arith, ⊎_elim}
use Rattle.std.proofs.lemmas.Option.{none-some}
use Rattle.uv_machine.specs.declared.entry.Entry.{Entry}
use Rattle.uv_machine.specs.Histories.{state_of}
use Rattle.uv_graph.specs.Seats.{TearsOnce, StoresUses}
use Rattle.uv_graph.proofs.Tearing.{start_once}
use Rattle.uv_graph.proofs.Whole.{stores_none}
use Rattle.uv_graph.proofs.Beginning.{tied_new, none_out}
use Rattle.uv_graph.proofs.graph.Graph.new.Goals as goal

pub invariant_of-result : goal.invariant_of-result
invariant_of-result g c =
    let tell = g.D.Deed.facts in
    let fresh = c.widen.ensures.history ∙ c.in_ok-log.ensures.history in
    let P : List Entry → Type 0 = λ h. TearsOnce (state_of h) in
    let Q : List Entry → Type 0 = λ h. StoresUses c.in_ok-uses.uses h in
    record {
      tied = tied_new tell c.widen.new.self _ c.args.pools c.in_ok-held.held fresh c.requires c.in_ok-held.ensures.size c.in_ok-held.ensures.none refl
          (omega (arith, c.in_ok-widen.ensures.ok)) refl refl (none_out 11) (none_out 11);
      once = subst P (sym fresh) start_once;
      known = λ a out n. absurd (⊎_elim (λ e. none-some out (sym (none_out 11 a) ∙ e)) (λ e. none-some out (sym (none_out 11 a) ∙ e)) n);
      stored = subst Q (sym fresh) (stores_none c.in_ok-uses.uses c.in_ok-uses.ensures.size c.in_ok-uses.ensures.none);
    }
