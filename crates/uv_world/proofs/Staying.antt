-- Stages whose cells fit their objects, after what calls of a world make of them.
use Rattle.std.proofs.Common.{◌≡◌, ℕ, Bool, true, false, [], ◌∷◌, ◌++◌, Option, None, Some, sym, ap, subst}
use Rattle.std.specs.Prelude.{◌==◌, Result, Ok, Err, if◌then◌else◌}
use Rattle.uv_num.specs.declared.errno.Errno.{Errno}
use Rattle.uv_num.specs.declared.limits.TheConstants.{DRIVER}
use Rattle.uv_machine.specs.declared.entry.Entry.{Entry}
use Rattle.uv_machine.specs.declared.entry.Entry.TheVariants as entry
use Rattle.uv_machine.specs.declared.object.Object.{Object}
use Rattle.uv_machine.specs.declared.state.State.{State}
use Rattle.uv_machine.specs.Histories.{IsLegal, state_of}
use Rattle.uv_machine.specs.States.{newest_free}
use Rattle.uv_graph.specs.declared.told.Torn.{Torn}
use Rattle.uv_graph.specs.declared.told.Torn.TheVariants as torn
use Rattle.uv_graph.specs.Calls.{calls_on}
use Rattle.uv_graph.specs.Turns.{last_entry}
use Rattle.uv_world.specs.declared.tearing.Turn.{Turn}
use Rattle.uv_world.specs.declared.tearing.Turn.TheVariants as turn
use Rattle.uv_world.specs.declared.contents.Contents.{Contents}
use Rattle.uv_world.specs.declared.world.World.{World}
use Rattle.uv_world.specs.Fitting.{FittingGoesOn, StageFits, StepInRange}
use Rattle.uv_world.specs.Holdings.{Held, held_of}
use Rattle.uv_world.specs.Seating.{stage_of}
use Rattle.uv_world.specs.Stages.{Stage, stage_then}
use Rattle.uv_world.specs.Tearing.{StageTurn, stage_killed, stage_swept, stage_torn, stage_unplugged}
use Rattle.uv_world.proofs.Seating.{last_allowed}

pub fits_after : FittingGoesOn → (s s' : Stage) (e : Entry) → s' ≡ stage_then s e → IsLegal s'.history → StepInRange (state_of s.history) e → StageFits s → StageFits s'
fits_after law s s' e is legal range f =
    let more : s'.history ≡ s.history ++ e ∷ [] = ap (λ (v : Stage). v.history) is in
    let P : Stage → Type 0 = λ v. StageFits v in
    subst P (sym is) (law s e f (last_allowed s.history s'.history e legal more) range)

fits_same : (s s' : Stage) → s' ≡ s → StageFits s → StageFits s'
fits_same s s' is f =
    let P : Stage → Type 0 = λ v. StageFits v in
    subst P (sym is) f

pub fits_unplugged : FittingGoesOn → (s s' : Stage) (d : ℕ) (said : Result (Unit {0}) Errno) → s' ≡ stage_unplugged s d said → IsLegal s'.history → StageFits s → StageFits s'
fits_unplugged law s s' d (Ok u) is legal f = fits_after law s s' (entry.Unplug d) is legal tt f
fits_unplugged law s s' d (Err e) is legal f = fits_same s s' is f

pub fits_torn : FittingGoesOn → (s s' : Stage) (file by : ℕ) (said : Torn) → s' ≡ stage_torn s file by said → IsLegal s'.history → StageFits s → StageFits s'
fits_torn law s s' file by torn.Began is legal f = fits_after law s s' (entry.Tear file by) is legal tt f
fits_torn law s s' file by (torn.NotYet actor) is legal f = fits_same s s' is f
fits_torn law s s' file by (torn.Refused errno) is legal f = fits_same s s' is f

last_in_range : (m : State) (file : ℕ) (b : Bool) → StepInRange m (if b then entry.Dissociated file else entry.Closed file)
last_in_range m file true = tt
last_in_range m file false = tt

fits_killed : FittingGoesOn → (s s' : Stage) (by file : ℕ) (found : Option Object) → s' ≡ (stage_killed s by file found).stage → IsLegal s'.history → StageFits s → StageFits s'
fits_killed law s s' by file None is legal f = fits_after law s s' (last_entry by file) is legal (last_in_range (state_of s.history) file (by == DRIVER)) f
fits_killed law s s' by file (Some x) is legal f = fits_after law s s' (entry.Kill x.id) is legal tt f

fits_if :
    FittingGoesOn → (s s' : Stage) (by file : ℕ) (b : Bool)
    → s' ≡ (if b then stage_killed s by file (newest_free (state_of s.history) file) else record { stage = s; turn = turn.NotYet (calls_on (state_of s.history) file) }).stage → IsLegal s'.history → StageFits s → StageFits s'
fits_if law s s' by file true is legal f = fits_killed law s s' by file (newest_free (state_of s.history) file) is legal f
fits_if law s s' by file false is legal f = fits_same s s' is f

pub fits_swept : FittingGoesOn → (s s' : Stage) (by file : ℕ) (t : Turn) → (let x : StageTurn = record { stage = s'; turn = t } in x) ≡ stage_swept s by file → IsLegal s'.history → StageFits s → StageFits s'
fits_swept law s s' by file t is legal f = fits_if law s s' by file (calls_on (state_of s.history) file == 0) (ap (λ (v : StageTurn). v.stage) is) legal f

-- room alone was taken
pub prepared_fits : (w : World) (contents : Contents) → held_of contents ≡ held_of w.contents → StageFits (stage_of w) → StageFits (stage_of (record w { contents = contents }))
prepared_fits w contents same f =
    let P : Held → Type 0 = λ v. StageFits (record { history = w.core.history; held = v }) in
    subst P (sym same) f
