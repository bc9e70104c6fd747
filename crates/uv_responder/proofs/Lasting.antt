-- What a turn leaves goes on from what was lent to it.
use Rattle.std.proofs.Common.{◌≡◌, ℕ, Bool, true, false, List, [], ◌∷◌, ◌++◌, Option, None, Some, length, refl, sym, ◌∙◌, ap, subst}
use Rattle.std.specs.Prelude.{is_some, IfSome}
use Rattle.uv_qp.specs.declared.state.Names.{Names}
use Rattle.uv_qp.specs.declared.turns.TurnDone.{TurnDone}
use Rattle.uv_qp.specs.declared.turns.TurnDone.TheVariants.{Turned, Idle, NoMemory}
use Rattle.uv_qp.specs.GoingOn.{TurnGoesOn}
use Rattle.uv_qp.specs.Laws.{TurnsGoOn, TurnsGoOnInTurn}
use Rattle.uv_qp.specs.Pairs.{Paired, held_or, next_receive}
use Rattle.uv_qp.specs.Writers.{broken, held_from_queue, held_from_shared, receive_completion, receive_ended, with_responder}
use Rattle.uv_queue.specs.Order.{oldest}
use Rattle.uv_region.specs.declared.piece.Piece.{Piece}
use Rattle.uv_region.specs.GoingOn.{LentGoesOn}
use Rattle.uv_region.specs.Laws.{LentRegionsGoOn}
use Rattle.uv_region.specs.Lent.{Lent, StaysKnown}
use Rattle.uv_region.specs.Several.{lent_written, with_rooms_for}
use Rattle.uv_wr.specs.declared.completion.Completion.{Completion}
use Rattle.uv_wr.specs.Works.{Receiving}
use Rattle.uv_responder.specs.declared.planning.Ending.{Ending}
use Rattle.uv_responder.specs.declared.planning.Plan.{Plan}
use Rattle.uv_responder.specs.declared.turning.Prepared.{Prepared}
use Rattle.uv_responder.specs.Turns.{Shared, Finishes, MayTake, RequestGoesOn, broken_if, carried_out, completion_for, completions_for, receive_ended_by, settled, taken}
use Rattle.uv_responder.proofs.Carried.{HasNoOwn, MayFinish, taken_names}

-- the queue pair

stays_on : TurnsGoOn → (p : Paired) → TurnGoesOn p [] p
stays_on law p = (law p).responder p.responder

or_next : (h o : Option Receiving) → is_some h ≡ false → held_or h o ≡ o
or_next None o free = refl
or_next (Some w) o free = cc

queue_on : TurnsGoOn → (p : Paired) (o : Option Receiving) → oldest p.receives.works ≡ o → is_some o ≡ true → is_some p.held ≡ false → TurnGoesOn p [] (held_from_queue p o)
queue_on law p None e some free = cc
queue_on law p (Some w) e some free = (law p).from_queue w free (or_next p.held (oldest p.receives.works) free ∙ e)

shared_on : TurnsGoOn → (p : Paired) (o : Option Receiving) → is_some o ≡ true → is_some p.held ≡ false → p.receives.works ≡ [] → TurnGoesOn p [] (held_from_shared p o)
shared_on law p None some free own = cc
shared_on law p (Some w) some free own = (law p).from_shared w free own

taken_on : TurnsGoOn → (takes : Bool) (p : Paired) (shared : Shared) → HasNoOwn p shared → MayTake takes p shared → TurnGoesOn p [] (taken takes p shared)
taken_on law false p shared own may = stays_on law p
taken_on law true p None own may = queue_on law p (oldest p.receives.works) refl (may.next refl) (may.free refl)
taken_on law true p (Some q) own may = shared_on law p (oldest q.works) (may.next refl) (may.free refl) own

broken_on : TurnsGoOn → (b : Bool) (p : Paired) → TurnGoesOn p [] (broken_if b p)
broken_on law true p = (law p).broken
broken_on law false p = stays_on law p

ending_on : TurnsGoOn → (e : Ending) (q : Paired) (o : Option Receiving) → next_receive q ≡ o → is_some o ≡ true → TurnGoesOn q (completion_for q.names e o) (receive_ended q e.status e.length e.imm o)
ending_on law e q None is some = cc
ending_on law e q (Some w) is some =
    let P : Option Receiving → Type 0 = λ o. TurnGoesOn q (receive_completion q.names e.status e.length e.imm w ∷ []) (receive_ended q e.status e.length e.imm o) in
    subst P is ((law q).receive e.status e.length e.imm w is)

ended_on : TurnsGoOn → (ends : Option Ending) (q : Paired) → IfSome ends (λ e. is_some (next_receive q) ≡ true) → TurnGoesOn q (completions_for q.names ends (next_receive q)) (receive_ended_by ends q)
ended_on law None q some = stays_on law q
ended_on law (Some e) q some = ending_on law e q (next_receive q) refl some

and_none : (xs : List Completion) → xs ++ [] ≡ xs
and_none [] = refl
and_none (x ∷ xs) = ap (λ ys. x ∷ ys) (and_none xs)

ended_then : TurnsGoOn → TurnsGoOnInTurn → (plan : Plan) (q : Paired) → IfSome plan.ends (λ e. is_some (next_receive q) ≡ true)
    → TurnGoesOn q (completions_for q.names plan.ends (next_receive q)) (with_responder (receive_ended_by plan.ends q) plan.responder)
ended_then law then plan q some =
    let ended : Paired = receive_ended_by plan.ends q in
    let told : List Completion = completions_for q.names plan.ends (next_receive q) in
    subst (λ cs. TurnGoesOn q cs (with_responder ended plan.responder)) (and_none told)
    (then q ended (with_responder ended plan.responder) told [] (ended_on law plan.ends q some) ((law ended).responder plan.responder))

ended_broken : TurnsGoOn → TurnsGoOnInTurn → (b : Bool) (plan : Plan) (q : Paired) → IfSome plan.ends (λ e. is_some (next_receive q) ≡ true)
    → TurnGoesOn (broken_if b q) (completions_for q.names plan.ends (next_receive q)) (with_responder (receive_ended_by plan.ends (broken_if b q)) plan.responder)
ended_broken law then true plan q some = ended_then law then plan (broken q) some
ended_broken law then false plan q some = ended_then law then plan q some

settled_on : TurnsGoOn → TurnsGoOnInTurn → (plan : Plan) (q : Paired) → IfSome plan.ends (λ e. is_some (next_receive q) ≡ true)
    → TurnGoesOn q (completions_for q.names plan.ends (next_receive q)) (settled plan q)
settled_on law then plan q some =
    then q (broken_if plan.breaks q) (settled plan q) [] (completions_for q.names plan.ends (next_receive q)) (broken_on law plan.breaks q) (ended_broken law then plan.breaks plan q some)

-- the whole

pub lasts : TurnsGoOn → TurnsGoOnInTurn → LentRegionsGoOn → (done : TurnDone) (p p' p'' : Paired) (lent lent' lent'' : Lent) (shared : Shared) (made : Prepared) (found : List Piece)
    → MayFinish made p lent' shared → HasNoOwn p shared → p' ≡ taken made.plan.takes p shared → lent' ≡ with_rooms_for lent found
    → Finishes (carried_out made p' lent') done p'' lent'' → RequestGoesOn done p lent p'' lent''
lasts law then regions Idle p p' p'' lent lent' lent'' shared made found may own pair room h = absurd h
lasts law then regions NoMemory p p' p'' lent lent' lent'' shared made found may own pair room h = absurd h
lasts law then regions (Turned word to packets completions) p p' p'' lent lent' lent'' shared made found may own pair room h =
    let t : Paired = taken made.plan.takes p shared in
    let qp : ℕ = p.names.object in
    let domain : ℕ = p.names.domain in
    let P : Paired → Type 0 = λ q. TurnGoesOn p (completions_for q.names made.plan.ends (next_receive q)) (settled made.plan q) in
    let base : P t = then p t (settled made.plan t) [] (completions_for t.names made.plan.ends (next_receive t)) (taken_on law made.plan.takes p shared own may.take) (settled_on law then made.plan t may.settle.next) in
    let there : P p' = subst P (sym pair) base in
    let names : p'.names ≡ p.names = ap (λ (q : Paired). q.names) pair ∙ taken_names made.plan.takes p shared in
    let W : Names → Type 0 = λ n. lent'' ≡ lent_written lent' made.kind n.object n.domain made.writes in
    let written : lent'' ≡ lent_written lent' made.kind qp domain made.writes = subst W names h.regions_are in
    let roomy : LentGoesOn qp domain lent lent' = subst (LentGoesOn qp domain lent) (sym room) ((regions qp domain).rooms lent found (length found)) in (
      subst (λ q. TurnGoesOn p completions q) (sym h.pair_is) (subst (λ cs. TurnGoesOn p cs (settled made.plan p')) (sym h.completions_are) there),
      (regions qp domain).in_turn lent lent' lent'' roomy (subst (LentGoesOn qp domain lent') (sym written) ((regions qp domain).writes lent' made.kind made.writes)),
    )

-- nothing that counts has changed
pub stays : TurnsGoOn → LentRegionsGoOn → (p p' : Paired) (lent lent' : Lent) → p' ≡ p → StaysKnown lent lent' → RequestGoesOn NoMemory p lent p' lent'
stays law regions p p' lent lent' pair known =
    (subst (λ q. TurnGoesOn p [] q) (sym pair) (stays_on law p), (regions p.names.object p.names.domain).known lent lent' known)
