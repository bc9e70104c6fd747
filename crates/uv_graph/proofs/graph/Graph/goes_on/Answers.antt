use Rattle.std.proofs.Common.{◌≡◌, true, None, subst, sym}
use Rattle.uv_machine.specs.declared.file.FilePhase.TheVariants.{Tearing}
use Rattle.uv_machine.specs.Histories.{state_of}
use Rattle.uv_machine.specs.Laws.{IsSwept}
use Rattle.uv_machine.specs.States.{phase_of, is_quiet}
use Rattle.uv_graph.specs.Kept.{Kept, kill_of}
use Rattle.uv_graph.proofs.Clearing.{swept_here}
use Rattle.uv_graph.proofs.graph.Graph.goes_on.Goals as goal

pub returns : goal.returns
returns g c =
    let P : Kept → Type 0 = λ k. phase_of (state_of k.history) c.args.file ≡ Tearing c.args.by in
    let Q : Kept → Type 0 = λ k. is_quiet (state_of k.history) c.args.file ≡ true in
    let N : Kept → Type 0 = λ k. kill_of k c.args.by ≡ None in
    let R : Kept → Type 0 = λ k. IsSwept k.history c.args.file c.args.by in
    subst R c.self.view_is
    (swept_here _ c.self.inside.log _ _ _ c.self.invariant.tied c.args.by c.args.file
    (subst P (sym c.self.view_is) c.requires.tearing) (subst Q (sym c.self.view_is) c.requires.quiet) (subst N (sym c.self.view_is) c.requires.none))
