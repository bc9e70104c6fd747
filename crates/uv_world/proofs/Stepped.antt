-- Steps at the core, each as the next one of its call.
use Rattle.std.proofs.Common.{◌≡◌, ◌∙◌, ℕ, true, false, List, [], ◌∷◌, ◌++◌, Option, Some, None, length, slice_get, refl, ap, sym, subst}
use Rattle.std.specs.Prelude.{◌≢◌, is_some}
use Rattle.uv_num.specs.declared.kind.Kind.{Kind}
use Rattle.uv_num.specs.declared.qp.QpState.{QpState}
use Rattle.uv_num.specs.Ranges.{is_in_range}
use Rattle.uv_num.specs.Request.{role_of}
use Rattle.uv_pool.specs.declared.plain.PlainDeed.{PlainDeed}
use Rattle.uv_pool.specs.Deeds.{DeedFacts}
use Rattle.uv_pool.specs.Plain.{plain_facts}
use Rattle.uv_machine.specs.declared.call.InFlight.{InFlight}
use Rattle.uv_machine.specs.declared.entry.CallStep.{CallStep}
use Rattle.uv_machine.specs.declared.entry.Word.TheVariants.{Finish}
use Rattle.uv_machine.specs.declared.moves.Move.{Move}
use Rattle.uv_machine.specs.declared.state.State.{State}
use Rattle.uv_machine.specs.Histories.{IsLegal, state_of}
use Rattle.uv_machine.specs.Moves.{entry_move}
use Rattle.uv_machine.specs.Plans.{next_word}
use Rattle.uv_machine.specs.States.{call_of, object_with}
use Rattle.uv_machine.specs.Steps.{next_from, next_of, step_of}
use Rattle.uv_graph.specs.declared.out.Out.{Out}
use Rattle.uv_graph.specs.declared.out.Own.{Own}
use Rattle.uv_graph.specs.Conditions.{ComesPlanted, IsFinishing, IsTouching, awaits, role_finds, touches_at}
use Rattle.uv_graph.specs.Hands.{made_identity}
use Rattle.uv_graph.specs.Kept.{Kept, out_of, the_out}
use Rattle.uv_graph.specs.Owns.{own_of}
use Rattle.uv_graph.specs.Turns.{IsNextOf, step_entry}
use Rattle.uv_core.specs.Beside.{OthersKeep}
use Rattle.uv_core.specs.Leads.{HasToAct, HasToBury, HasToPlant}
use Rattle.uv_world.specs.declared.contents.Contents.{Contents}
use Rattle.uv_world.specs.declared.world.Doomed.{Doomed}
use Rattle.uv_world.specs.declared.world.World.{World}
use Rattle.uv_world.specs.Celled.{value_of_slot}
use Rattle.uv_world.specs.Holdings.{held_of}
use Rattle.uv_world.specs.Moving.{held_moved}
use Rattle.uv_world.specs.Seating.{AreSeated, GoesBuried, GoesPlanted, HoldsRetired, MakesNext, SeatFits, stage_of}
use Rattle.uv_world.specs.Stages.{Stage, call_found, stage_found, stage_kept, stage_next, stage_then}
use Rattle.uv_world.proofs.Nexting.{found_none, found_some, keeps_none, next_same, touch_keeps}
use Rattle.uv_world.proofs.Seating.{call_is, seat_stepped, seated_after}
use Rattle.uv_world.proofs.Starting.{stage_same}

-- the next step of a stage is told by what it finds
next_found : (s : Stage) (a : ℕ) (f : Option QpState) (d : CallStep) → stage_found s (call_of (state_of s.history) a) ≡ f → next_of (state_of s.history) a f (stage_kept s a) ≡ Some d → stage_next s a ≡ Some d
next_found s a f d found next = ap (λ (v : Option QpState). next_of (state_of s.history) a v (stage_kept s a)) found ∙ next

-- a call whose next step isn't about what a cell holds finds nothing
pub finds_none : (s : Stage) (a : ℕ) (call : InFlight) → call_of (state_of s.history) a ≡ Some call → awaits call ≡ false → stage_found s (call_of (state_of s.history) a) ≡ None
finds_none s a call is alone = ap (stage_found s) is ∙ found_none call _ (next_word call) alone

-- any step that the core makes by itself
pub next_alone : (s : Stage) (k : Kept) (a : ℕ) (d : CallStep) → k.history ≡ s.history → IsNextOf k a d → keeps_none (object_with (state_of k.history) d.object) d.word ≡ true → stage_next s a ≡ Some d
next_alone s k a d same next free =
    let P : Kept → Type 0 = λ v. IsNextOf v a d in
    let now : next_of (state_of k.history) a None (stage_kept s a) ≡ Some d = next_same (state_of k.history) a None (stage_kept s a) d next.next free in
    next_found s a None d
    (ap (λ h. stage_found s (call_of (state_of h) a)) (sym same) ∙ (ap (stage_found s) next.is ∙ found_none next.call _ (next_word next.call) next.alone))
    (ap (λ h. next_of (state_of h) a None (stage_kept s a)) (sym same) ∙ now)

-- an act
pub next_act : (s : Stage) (a : ℕ) (call : InFlight) (d : CallStep) → call_of (state_of s.history) a ≡ Some call → next_of (state_of s.history) a (call_found s call) 0 ≡ Some d
    → keeps_none (object_with (state_of s.history) d.object) d.word ≡ true → stage_next s a ≡ Some d
next_act s a call d is next free =
    next_found s a (call_found s call) d (ap (stage_found s) is) (next_same (state_of s.history) a (call_found s call) (stage_kept s a) d next free)

-- a finish
pub next_finish : (s : Stage) (a : ℕ) (call : InFlight) (d : CallStep) → call_of (state_of s.history) a ≡ Some call → next_word call ≡ Finish → next_of (state_of s.history) a None (stage_kept s a) ≡ Some d → stage_next s a ≡ Some d
next_finish s a call d is word next =
    next_found s a None d (finds_none s a call is (ap (touches_at (role_of call.request)) word)) next

act_from : (m : State) (a : ℕ) (f : Option QpState) (slot : Option InFlight) (call : InFlight) (d : CallStep) → slot ≡ Some call → awaits call ≡ true → next_from m a f 0 slot ≡ Some d → keeps_none (object_with m d.object) d.word ≡ true
act_from m a f None call d is awaits_it next = absurd (cc)
act_from m a f (Some now) call d is awaits_it next =
    let same : now ≡ call = (let k : Some now ≡ Some call = is in cc) in
    let done : step_of m a f 0 now ≡ d = (let k : Some (step_of m a f 0 now) ≡ Some d = next in cc) in
    let P : InFlight → Type 0 = λ v. awaits v ≡ true in
    let Q : CallStep → Type 0 = λ v. keeps_none (object_with m v.object) v.word ≡ true in
    subst Q done (touch_keeps (object_with m (step_of m a f 0 now).object) (role_of now.request) (next_word now) (subst P (sym same) awaits_it))

-- What the core asks for.

-- the call that finishes is about to
pub finishing_word : (o : Own) (t : DeedFacts) (call : InFlight) → IsFinishing o t → o.call ≡ Some call → next_word call ≡ Finish
finishing_word o t call f is =
    let same : f.call ≡ call = (let k : Some f.call ≡ Some call = sym f.is ∙ is in cc) in
    let P : InFlight → Type 0 = λ v. next_word v ≡ Finish in
    subst P same f.word

-- an act is told what it finds
pub touching_is : (s : Stage) (o : Own) (call : InFlight) (f : Option QpState) → HasToAct o → o.call ≡ Some call → f ≡ call_found s call → IsTouching o f
touching_is s o call f h is found =
    let same : call ≡ h.call = (let k : Some call ≡ Some h.call = sym is ∙ h.is in cc) in
    let P : InFlight → Type 0 = λ v. is_some (call_found s v) ≡ role_finds (role_of v.request) in
    record {
      client = h.client;
      call = h.call;
      is = h.is;
      awaits_it = h.awaits_it;
      finds = ap (λ (v : Option QpState). is_some v) found ∙ (ap (λ (v : InFlight). is_some (call_found s v)) same ∙ found_some h.call _ (next_word h.call) h.awaits_it);
      none = h.none;
    }

-- an act looks at nothing that is kept
pub act_keeps : (m : State) (a : ℕ) (f : Option QpState) (call : InFlight) (d : CallStep) → call_of m a ≡ Some call → awaits call ≡ true → next_of m a f 0 ≡ Some d → keeps_none (object_with m d.object) d.word ≡ true
act_keeps m a f call d is awaits_it next = act_from m a f (call_of m a) call d is awaits_it next

-- a deed that was planted for a new object goes back
pub comes_planted : (o : Own) (deed now : PlainDeed) (x : ℕ) (kind : Kind) (call : InFlight) → HasToPlant o (plain_facts deed) x kind → o.call ≡ Some call → GoesPlanted deed (made_identity call x kind) now → ComesPlanted o (plain_facts now)
comes_planted o deed now x kind call h is goes =
    let same : h.call ≡ call = (let k : Some h.call ≡ Some call = sym h.is ∙ is in cc) in
    record {
      call = h.call;
      is = h.is;
      word = h.word;
      out = h.out;
      out_is = h.out_is;
      deed = goes h.out o.out_lives o.out_lives (h.identity ∙ ap (λ (v : InFlight). made_identity v x kind) same) h.deed;
    }

-- a deed that was buried lies with its actor until the finish
pub holds_buried : (o : Own) (deed now : PlainDeed) (r : Option PlainDeed) → HasToBury o (plain_facts deed) → GoesBuried deed now → r ≡ Some now → HoldsRetired o r
holds_buried o deed now r h goes is =
    let P : Option PlainDeed → Type 0 = λ v. HoldsRetired o v in
    subst P (sym is)
    record {
      client = h.client;
      call = h.call;
      is = h.is;
      word = h.word;
      out = h.out;
      out_is = h.out_is;
      deed = goes h.out o.out_lives o.out_lives h.deed;
    }

-- An actor's call has made its next step.

pub out_kept : (k k' : Kept) (a : ℕ) → k'.outs ≡ k.outs → out_of k a ≡ None → out_of k' a ≡ None
out_kept k k' a same none = ap (λ (v : List (Option Out)). the_out (slice_get v a)) same ∙ none

pub makes_next :
    (a : ℕ) (old new : World) (call : InFlight) (d : CallStep) → AreSeated old.core old.retired old.doomed → call_of (state_of old.core.history) a ≡ Some call → stage_next (stage_of old) a ≡ Some d
    → IsLegal new.core.history → new.core.history ≡ old.core.history ++ step_entry a d ∷ [] → new.core.kills ≡ old.core.kills → new.core.spares ≡ old.core.spares → OthersKeep a old.core new.core
    → new.contents ≡ old.contents → new.doomed ≡ old.doomed → length new.retired ≡ length old.retired → ((b : ℕ) → b ≢ a → value_of_slot new.retired b ≡ value_of_slot old.retired b)
    → HoldsRetired (own_of new.core a) (value_of_slot new.retired a) → MakesNext a old new
makes_next a old new call d seated is next legal more kills spares others contents doomed size beside held =
    let X : List (Option Doomed) → Type 0 = λ v. AreSeated new.core new.retired v in
    record {
      done = d;
      next = next;
      history = more;
      spares = spares;
      others = others;
      contents = contents;
      doomed = doomed;
      seated =
          subst X (sym doomed)
          (seated_after a old.core new.core old.retired new.retired old.doomed old.doomed seated legal others size refl beside (λ b ne. refl)
          (seat_stepped a old.core new.core call d (value_of_slot old.retired a) (value_of_slot new.retired a) (value_of_slot old.doomed a) (seated.seats a) is legal more kills held));
    }

-- The step with its contents.

pub range_is : (a : ℕ) (k : Kept) (call : InFlight) (r : Option PlainDeed) (x : Option Doomed) → SeatFits (own_of k a) r x → call_of (state_of k.history) a ≡ Some call → is_in_range call.request ≡ true
range_is a k call r x fits is = (call_is a (call_of (state_of k.history) a) call x fits.call is).1

pub stage_stepped :
    (a : ℕ) (old mid : World) (d : CallStep) (step : Move) (contents : Contents) → MakesNext a old mid → stage_next (stage_of old) a ≡ Some d → step ≡ entry_move (state_of old.core.history) (step_entry a d)
    → held_of contents ≡ held_moved (held_of mid.contents) step → stage_of (record mid { contents = contents }) ≡ stage_then (stage_of old) (step_entry a d)
stage_stepped a old mid d step contents made next moves held =
    let same : made.done ≡ d = (let k : Some made.done ≡ Some d = sym made.next ∙ next in cc) in
    stage_same mid.core.history (old.core.history ++ step_entry a d ∷ []) (held_of contents) (held_moved (held_of old.contents) (entry_move (state_of old.core.history) (step_entry a d)))
    (made.history ∙ ap (λ (v : CallStep). old.core.history ++ step_entry a v ∷ []) same)
    (held ∙ (ap (λ (v : Contents). held_moved (held_of v) step) made.contents ∙ ap (λ (v : Move). held_moved (held_of old.contents) v) moves))
