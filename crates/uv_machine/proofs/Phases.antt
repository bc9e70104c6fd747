-- The phases of files after entries.
use Rattle.std.specs.Prelude.{ℕ, false, ◌≡◌, ◌<◌, ◌++◌, List, [], ◌∷◌, Option, None, Some, refl, length, slice_get, option_map}
use Rattle.std.proofs.Common.{ap, zero, suc, ◌∙◌, arith}
use Rattle.uv_num.specs.declared.errno.Errno.{Errno}
use Rattle.uv_num.specs.declared.kind.Kind.{Kind}
use Rattle.uv_num.specs.declared.request.Act as request
use Rattle.uv_num.specs.declared.request.Act.TheVariants.{Modify, Query, Bind, Unbind, Async}
use Rattle.uv_num.specs.declared.request.Role.{Role}
use Rattle.uv_num.specs.declared.request.Role.TheVariants.{Creates, Destroys, Acts}
use Rattle.uv_num.specs.Request.{role_of}
use Rattle.uv_machine.specs.declared.entry.Entry.{Entry}
use Rattle.uv_machine.specs.declared.entry.Entry.TheVariants.{Open, Enter, Step, Unplug, Tear, Kill, Gone, Dissociated, Closed}
use Rattle.uv_machine.specs.declared.entry.Word.{Word}
use Rattle.uv_machine.specs.declared.entry.Word.TheVariants.{Reserve, Look, Make, Commit, Act, Lock, Check, Finish, Abort, Free, Exit}
use Rattle.uv_machine.specs.declared.entry.Answer.{Answer}
use Rattle.uv_machine.specs.declared.entry.Answer.TheVariants as answer
use Rattle.uv_machine.specs.declared.object.Object.{Object}
use Rattle.uv_machine.specs.declared.file.File.{File}
use Rattle.uv_machine.specs.declared.file.FilePhase.TheVariants as file
use Rattle.uv_machine.specs.declared.call.InFlight.{InFlight}
use Rattle.uv_machine.specs.declared.state.State.{State}
use Rattle.uv_machine.specs.States.{call_of, object_with, home_cell, phase_in, phase_of, start}
use Rattle.uv_machine.specs.Effects.{refusal_in, unless_refused, unless_answered, gone_from, stepped, after_step, make, make_at, act, act_by, opened}
use Rattle.uv_machine.specs.Histories.{Allowed, after, IsLegal, state_of}
use Rattle.uv_machine.specs.Laws.{moves_file}
use Rattle.uv_machine.proofs.GoingOn.{state_from-snoc}
use Rattle.uv_num.proofs.PlaceLaws.{slice_get-at_place_same}
use Rattle.uv_machine.proofs.Files.{buried_files, phase_of-taken}
use Rattle.uv_machine.proofs.Reaching.{Reached-state_of}

-- What leaves every file's phase as it was.

-- the phase of a file is as it was
abbrev pub IsSamePhase : ℕ → State → State → Type 0
IsSamePhase f m m' = phase_of m' f ≡ phase_of m f

phase_gone : (f : ℕ) (m : State) (o : ℕ) (x : Option Object) → IsSamePhase f m (gone_from m o x)
phase_gone f m o None = refl
phase_gone f m o (Some x) = refl

phase_unless_answered : (f : ℕ) (m m' : State) (r : Option Errno) → IsSamePhase f m m' → IsSamePhase f m (unless_answered m r m')
phase_unless_answered f m m' None e = e
phase_unless_answered f m m' (Some errno) e = refl

module _ (f : ℕ) (m : State) (c : ℕ) where
  phase_unless_refused : (m' : State) (r : Option Errno) → IsSamePhase f m m' → IsSamePhase f m (unless_refused m c r m')
  phase_unless_refused m' None e = e
  phase_unless_refused m' (Some errno) e = refl

  phase_make_at : (call : InFlight) (kind : Kind) (i : Option ℕ) → IsSamePhase f m (make_at m c call kind i)
  phase_make_at call kind None = refl
  phase_make_at call kind (Some i) = refl

  phase_make : (call : InFlight) (role : Role) → IsSamePhase f m (make m c call role)
  phase_make call (Creates kind) = phase_make_at call kind (home_cell m kind)
  phase_make call (Destroys asked) = refl
  phase_make call (Acts what) = refl

  phase_act : (call : InFlight) (a : Answer) (what : request.Act) → IsSamePhase f m (act m c call a what)
  phase_act call a (Modify to attrs) = refl
  phase_act call a Query = refl
  phase_act call a (Bind offset long access) = refl
  phase_act call a (Unbind offset long access) = refl
  phase_act call a Async = phase_of-taken m call.file f

  phase_act_by : (call : InFlight) (a : Answer) (role : Role) → IsSamePhase f m (act_by m c call a role)
  phase_act_by call a (Creates kind) = refl
  phase_act_by call a (Destroys asked) = refl
  phase_act_by call a (Acts what) = phase_act call a what

  phase_stepped : (call : InFlight) (w : Word) (o : ℕ) (a : Answer) → IsSamePhase f m (stepped m c call w o a)
  phase_stepped call Reserve o a = phase_unless_refused _ (refusal_in a) refl
  phase_stepped call Look o a = phase_unless_refused _ (refusal_in a) refl
  phase_stepped call Make o a = phase_unless_refused _ (refusal_in a) (phase_make call (role_of call.request))
  phase_stepped call Commit o a = phase_unless_refused _ (refusal_in a) refl
  phase_stepped call Act o a = phase_unless_refused _ (refusal_in a) (phase_act_by call a (role_of call.request))
  phase_stepped call Lock o a = phase_unless_refused _ (refusal_in a) refl
  phase_stepped call Check o a = phase_unless_refused _ (refusal_in a) refl
  phase_stepped call Finish o a = phase_unless_refused _ (refusal_in a) (ap (λ files. phase_in (slice_get files f)) (buried_files m (object_with m o)))
  phase_stepped call Abort o a = phase_unless_refused _ (refusal_in a) refl
  phase_stepped call Free o a = phase_unless_refused _ (refusal_in a) refl
  phase_stepped call Exit o a = refl

  phase_after_step : (slot : Option InFlight) (w : Word) (o : ℕ) (a : Answer) → IsSamePhase f m (after_step m c slot w o a)
  phase_after_step None w o a = refl
  phase_after_step (Some call) w o a = phase_stepped call w o a

pub phase_of-after : (m : State) (e : Entry) (f : ℕ) → moves_file e ≡ false → phase_of (after m e) f ≡ phase_of m f
phase_of-after m (Open c k d a) f still = absurd cc
phase_of-after m (Enter c k request a) f still = phase_unless_answered f m _ (refusal_in a) refl
phase_of-after m (Step c w o found a) f still = phase_after_step f m c (call_of m c) w o a
phase_of-after m (Unplug d) f still = refl
phase_of-after m (Tear k by) f still = absurd cc
phase_of-after m (Kill o) f still = refl
phase_of-after m (Gone o kept) f still = phase_gone f m o (object_with m o)
phase_of-after m (Dissociated k) f still = absurd cc
phase_of-after m (Closed k) f still = absurd cc

-- What was opened stands open.

there_is : (files : List File) (f : ℕ) (c d : ℕ) → f < length files → phase_in (option_map (opened c d) (slice_get files f)) ≡ file.Open
there_is [] f c d low = absurd (omega arith)
there_is (x ∷ files) zero c d low = refl
there_is (x ∷ files) (suc f) c d low = there_is files f c d (omega arith)

pub phase_of-opened : (h : List Entry) (c f d : ℕ) → IsLegal h → Allowed (state_of h) (Open c f d answer.Ok) → phase_of (state_of (h ++ Open c f d answer.Ok ∷ [])) f ≡ file.Open
phase_of-opened h c f d legal allowed =
    let m = state_of h in
    let r = Reached-state_of h legal in
    ap (λ s. phase_of s f) (state_from-snoc start h (Open c f d answer.Ok))
    ∙ ap phase_in (slice_get-at_place_same m.files f (opened c d))
    ∙ there_is m.files f c d (omega (arith, r.files, allowed.1))
