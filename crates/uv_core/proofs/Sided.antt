-- What each answer of a call leaves to the other actors.
use Rattle.std.proofs.Common.{◌≡◌, ℕ, true, false, Option, Some, None, refl, ap, ◌∙◌, inl, inr}
use Rattle.std.specs.Prelude.{Bool, not, ◌&&◌, Result, Ok, Err, ◌==◌, if◌then◌else◌, reverse}
use Rattle.std.proofs.lemmas.Bool.{and_parts, eq-eqb, eqb-true}
use Rattle.uv_num.specs.declared.errno.Errno.{Errno}
use Rattle.uv_num.specs.declared.limits.TheConstants.{DRIVER}
use Rattle.uv_num.specs.declared.qp.QpState.{QpState}
use Rattle.uv_num.specs.declared.request.Request.{Request}
use Rattle.uv_pool.specs.Deeds.{DeedFacts}
use Rattle.uv_machine.specs.declared.entry.Answer.{Answer}
use Rattle.uv_machine.specs.declared.entry.Answer.TheVariants as answer
use Rattle.uv_machine.specs.declared.entry.Entry.{Entry}
use Rattle.uv_machine.specs.declared.entry.Entry.TheVariants as entry
use Rattle.uv_machine.specs.declared.file.FilePhase.TheVariants.{Tearing}
use Rattle.uv_machine.specs.declared.object.Object.{Object}
use Rattle.uv_machine.specs.Objects.{in_file, is_live}
use Rattle.uv_machine.specs.declared.state.State.{State}
use Rattle.uv_machine.specs.States.{object_with, phase_of, can_go, has_users, newest_free}
use Rattle.uv_machine.specs.Histories.{state_of, IsLegal}
use Rattle.uv_machine.proofs.Members.{Passes-find}
use Rattle.uv_graph.proofs.Asked.{sweeper_tears}
use Rattle.uv_graph.specs.declared.told.Progress.{Progress}
use Rattle.uv_graph.specs.declared.told.Progress.TheVariants as progress
use Rattle.uv_graph.specs.declared.told.Swept.{Swept}
use Rattle.uv_graph.specs.declared.told.Swept.TheVariants as swept
use Rattle.uv_graph.specs.declared.told.Torn.{Torn}
use Rattle.uv_graph.specs.declared.told.Torn.TheVariants as torn
use Rattle.uv_graph.specs.Conditions.{IsSweeper}
use Rattle.uv_graph.specs.Hands.{out_in}
use Rattle.uv_graph.specs.Kept.{Kept}
use Rattle.uv_graph.specs.Deeds.{out_for}
use Rattle.uv_graph.specs.Notes.{NotesOrSpares, NotesSpared}
use Rattle.uv_graph.specs.Owns.{own_of, is_entry_by, is_torn_by, torn_by_object, AreOut, OwnStandsApart, NamesItsActor}
use Rattle.uv_graph.specs.Turns.{StepGives, ActsBy, FinishesBy, OpenGives, EnterGives, UnplugGives, TearGives, SweepGives, ReleasesBy, step_entry, last_entry}
use Rattle.uv_core.proofs.Leaving.{Leaves, leaves_all, leaves_by, leaves_out, leaves_kill, leaves_spared}

-- what a sweep takes is an object of its file
newest_file : (m : State) (f : ℕ) (x : Object) → newest_free m f ≡ Some x → x.file ≡ f
newest_file m f x newest =
    let p = Passes-find (can_go m f) x (reverse m.objects) newest in
    eqb-true x.file f (and_parts (in_file f x) (is_live x.phase && not (has_users m x.id)) p.test).0

module _ (old new : Kept) (legal : IsLegal old.history) (outs : AreOut old) (apart : OwnStandsApart) (named : NamesItsActor) (after_legal : IsLegal new.history) where
  refused : (a : ℕ) (e : Entry) → is_entry_by (state_of old.history) a e ≡ true → NotesOrSpares old new e a → Leaves a old new
  refused a e mine (NotesOrSpares.InNew notes) = leaves_by a old new legal outs apart named after_legal e mine notes
  refused a e mine (NotesOrSpares.InSpare notes less) = leaves_spared a old new legal outs apart named after_legal e mine notes

  pub open_leaves : (c f d : ℕ) (r : Result (Unit {0}) Errno) → OpenGives old new c f d r → Leaves c old new
  open_leaves c f d (Ok u) g = leaves_by c old new legal outs apart named after_legal (entry.Open c f d answer.Ok) (eq-eqb c c refl) g.notes
  open_leaves c f d (Err e) (inl g) = refused c (entry.Open c f d (answer.Refused e)) (eq-eqb c c refl) g.notes
  open_leaves c f d (Err e) (inr g) = leaves_all c old new g.dry.same

  pub enter_leaves : (c f : ℕ) (request : Request) (r : Result (Unit {0}) Errno) → EnterGives old new c f request r → Leaves c old new
  enter_leaves c f request (Ok u) g = leaves_by c old new legal outs apart named after_legal (entry.Enter c f request answer.Ok) (eq-eqb c c refl) g.notes
  enter_leaves c f request (Err e) (inl g) = refused c (entry.Enter c f request (answer.Refused e)) (eq-eqb c c refl) g.notes
  enter_leaves c f request (Err e) (inr g) = leaves_all c old new g.dry.same

  pub refuse_leaves : (c f : ℕ) (request : Request) (e : Errno) → NotesSpared old new (entry.Enter c f request (answer.Refused e)) c → Leaves c old new
  refuse_leaves c f request e notes = leaves_spared c old new legal outs apart named after_legal (entry.Enter c f request (answer.Refused e)) (eq-eqb c c refl) notes

  pub step_leaves : {D : Type 0} (tell : D → DeedFacts) (c : ℕ) (p : Progress D) → StepGives tell old new c p → Leaves c old new
  step_leaves tell c (progress.Went w) g = leaves_by c old new legal outs apart named after_legal (step_entry c g.done) (eq-eqb c c refl) g.notes
  step_leaves tell c (progress.Refused w e) g = leaves_by c old new legal outs apart named after_legal (step_entry c g.done) (eq-eqb c c refl) g.notes
  step_leaves tell c (progress.Plant deed object kind) g =
      leaves_out c old new legal outs apart named after_legal (step_entry c g.done) (eq-eqb c c refl) (Some (out_for g.hands.item.uses g.hands.item)) g.hands.notes
  step_leaves tell c (progress.Touch kind index generation) g = leaves_all c old new g.same
  step_leaves tell c (progress.Retire deed object kind) g =
      leaves_out c old new legal outs apart named after_legal (step_entry c g.done) (eq-eqb c c refl) (Some (out_in old.history g.hands.item)) g.hands.notes
  step_leaves tell c (progress.Ended a) g = leaves_by c old new legal outs apart named after_legal (step_entry c g.done) (eq-eqb c c refl) g.notes

  pub act_leaves : (c : ℕ) (found : Option QpState) (a : Answer) → ActsBy old new c found a → Leaves c old new
  act_leaves c found a g = leaves_by c old new legal outs apart named after_legal (step_entry c g.done) (eq-eqb c c refl) g.notes

  pub finish_leaves : (c kept : ℕ) → FinishesBy old new c kept → Leaves c old new
  finish_leaves c kept g = leaves_out c old new legal outs apart named after_legal (step_entry c g.done) (eq-eqb c c refl) None g.notes

  -- Teardown.

  pub unplug_leaves : (d : ℕ) (r : Result (Unit {0}) Errno) → UnplugGives old new d r → Leaves DRIVER old new
  unplug_leaves d (Ok u) g = leaves_by DRIVER old new legal outs apart named after_legal (entry.Unplug d) refl g.notes
  unplug_leaves d (Err e) g = leaves_all DRIVER old new g.same

  pub tear_leaves : (f by : ℕ) (r : Torn) → TearGives old new f by r → Leaves by old new
  tear_leaves f by torn.Began g = leaves_by by old new legal outs apart named after_legal (entry.Tear f by) (eq-eqb by by refl) g
  tear_leaves f by (torn.NotYet actor) g = leaves_all by old new g
  tear_leaves f by (torn.Refused e) g = leaves_all by old new g

  -- who tears a file down makes the entries of its teardown
  torn_here : (f by : ℕ) → phase_of (state_of old.history) f ≡ Tearing by → is_torn_by by (phase_of (state_of old.history) f) ≡ true
  torn_here f by tearing = ap (is_torn_by by) tearing ∙ eq-eqb by by refl

  torn_object : (by o : ℕ) (x : Object) → object_with (state_of old.history) o ≡ Some x → phase_of (state_of old.history) x.file ≡ Tearing by → torn_by_object (state_of old.history) by (object_with (state_of old.history) o) ≡ true
  torn_object by o x there tearing = ap (torn_by_object (state_of old.history) by) there ∙ torn_here x.file by tearing

  last_mine : (f by : ℕ) (b : Bool) → phase_of (state_of old.history) f ≡ Tearing by → is_entry_by (state_of old.history) by (if b then entry.Dissociated f else entry.Closed f) ≡ true
  last_mine f by true tearing = torn_here f by tearing
  last_mine f by false tearing = torn_here f by tearing

  pub sweep_leaves : {D : Type 0} (tell : D → DeedFacts) (by f : ℕ) (r : Swept D) → IsSweeper (own_of old by) f → SweepGives tell old new by f r → Leaves by old new
  sweep_leaves tell by f (swept.Kill deed object kind handle) sweeper g =
      let m = state_of old.history in
      let tearing : phase_of m g.hands.item.file ≡ Tearing by = ap (phase_of m) (newest_file m f g.hands.item g.newest) ∙ sweeper_tears old by f sweeper in
      leaves_kill by old new legal outs apart named after_legal (entry.Kill object) (torn_object by object g.hands.item g.hands.there tearing) (Some (out_in old.history g.hands.item)) g.hands.notes
  sweep_leaves tell by f swept.Done sweeper g =
      leaves_by by old new legal outs apart named after_legal (last_entry by f) (last_mine f by (by == DRIVER) (sweeper_tears old by f sweeper)) g.notes
  sweep_leaves tell by f (swept.NotYet n) sweeper g = leaves_all by old new g.same

  pub gone_leaves : (by kept : ℕ) → ReleasesBy old new by kept → Leaves by old new
  gone_leaves by kept g =
      let k = outs.kills by g.out g.was in
      leaves_kill by old new legal outs apart named after_legal (entry.Gone g.out.identity.id kept) (torn_object by g.out.identity.id k.item k.there k.torn) None g.notes
