-- What a client's call leaves of its own part.
use Rattle.std.proofs.Common.{◌≡◌, ℕ, true, false, List, [], ◌∷◌, ◌++◌, Option, Some, None, get_or, refl, ap, sym, ◌∙◌, subst, arith, inl, inr}
use Rattle.std.specs.Prelude.{Result, Ok, Err, slice_get, option_map}
use Rattle.std.proofs.lemmas.Option.{none-some, same_Some, slice_get-get_or}
use Rattle.uv_num.specs.declared.errno.Errno.{Errno}
use Rattle.uv_num.specs.declared.kind.Kind.{Kind}
use Rattle.uv_num.specs.declared.qp.QpState.{QpState}
use Rattle.uv_num.specs.declared.request.Ask.{Ask}
use Rattle.uv_num.specs.declared.request.Request.{Request}
use Rattle.uv_num.specs.declared.identity.Identity.{Identity}
use Rattle.uv_num.specs.declared.ids.Ids.{Ids}
use Rattle.uv_num.specs.declared.request.Role.{Role}
use Rattle.uv_num.specs.declared.request.Role.TheVariants.{Creates, Destroys}
use Rattle.uv_num.specs.Place.{at_place}
use Rattle.uv_num.specs.Request.{role_of}
use Rattle.uv_num.proofs.PlaceLaws.{slice_get-at_place_same}
use Rattle.uv_pool.specs.Deeds.{DeedFacts}
use Rattle.uv_machine.specs.declared.call.InFlight.{InFlight}
use Rattle.uv_machine.specs.declared.entry.Answer.{Answer}
use Rattle.uv_machine.specs.declared.entry.Answer.TheVariants as answer
use Rattle.uv_machine.specs.declared.entry.CallStep.{CallStep}
use Rattle.uv_machine.specs.declared.entry.Entry.{Entry}
use Rattle.uv_machine.specs.declared.entry.Entry.TheVariants as entry
use Rattle.uv_machine.specs.declared.entry.Word.{Word}
use Rattle.uv_machine.specs.declared.entry.Word.TheVariants.{Reserve, Look, Make, Commit, Act, Lock, Check, Finish, Abort, Free, Exit}
use Rattle.uv_machine.specs.declared.object.Object.{Object}
use Rattle.uv_machine.specs.Plans.{next_word, entered, moved_on, with_refusal, with_number, with_look, with_made, with_outcome, with_lock, without_lock, without_number, without_look}
use Rattle.uv_machine.specs.Words.{is_look}
use Rattle.uv_machine.specs.Effects.{put_call}
use Rattle.uv_machine.specs.States.{call_of, the_call, object_with, start}
use Rattle.uv_machine.specs.Histories.{after, state_of, IsLegal}
use Rattle.uv_machine.proofs.Planned.{InPlan, unwinds, in_plan, stands_in_plan, next_word-closing, next_word-planned}
use Rattle.uv_machine.proofs.Turns.{IsTurn-allowed, may_refuse}
use Rattle.uv_machine.proofs.OwnCall.{OwnTurn, calls_turn, call_of-changed}
use Rattle.uv_machine.proofs.Reaching.{Reached-state_of}
use Rattle.uv_graph.specs.declared.out.Out.{Out}
use Rattle.uv_graph.specs.declared.told.Progress.{Progress}
use Rattle.uv_graph.specs.declared.told.Progress.TheVariants as progress
use Rattle.uv_graph.specs.Conditions.{IsClient, IsFree, IsReady, IsFinishing, IsTouching, ComesPlanted, awaits, touches_at}
use Rattle.uv_graph.specs.Deeds.{out_for, IsDeedForNew, IsDeedPlantedFor}
use Rattle.uv_graph.specs.Hands.{out_in}
use Rattle.uv_graph.specs.Kept.{Kept, out_of, the_out, put_out}
use Rattle.uv_graph.specs.Lives.{lives_out}
use Rattle.uv_graph.specs.Notes.{NotesOrSpares, NotesSpared, HasNoOut}
use Rattle.uv_graph.specs.Owns.{own_of, AreOut}
use Rattle.uv_graph.specs.Seats.{is_giving}
use Rattle.uv_graph.specs.Turns.{StepGives, ActsBy, FinishesBy, EnterGives, PlantsFor, RetiresFor, step_entry, is_exit, goes_plain}
use Rattle.uv_graph.proofs.MachineLaws.{state_goes_on}
use Rattle.uv_core.specs.Leads.{EnterLeads, HasToAct, HasToPlant, HasToBury, StepLeads}
use Rattle.uv_core.specs.Roles.{is_any}
use Rattle.uv_core.proofs.Leaving.{last_from}

-- What a step leaves of its call.

planned_word : (call : InFlight) (w : Word) → InPlan call w → next_word call ≡ w
planned_word call w plan = next_word-planned call w plan.fine plan.planned

pub record Flies (call : InFlight) (slot : Option InFlight) : Type 0 where
  pub left : InFlight
  pub is : slot ≡ Some left
  pub request : left.request ≡ call.request

flies : (call : InFlight) (slot : Option InFlight) → OwnTurn call slot → is_exit (next_word call) ≡ false → Flies call slot
flies call slot (OwnTurn.OwnRefuses w e plan may is) on = record { left = with_refusal e call; is = is; request = refl }
flies call slot (OwnTurn.OwnReserves n plan is) on = record { left = with_number (Some n) call; is = is; request = refl }
flies call slot (OwnTurn.OwnLooks o plan is) on = record { left = with_look o call; is = is; request = refl }
flies call slot (OwnTurn.OwnMakes o outcome plan is) on = record { left = with_made o outcome call; is = is; request = refl }
flies call slot (OwnTurn.OwnCommits plan is) on = record { left = without_lock call; is = is; request = refl }
flies call slot (OwnTurn.OwnDoes outcome plan is) on = record { left = with_outcome outcome call; is = is; request = refl }
flies call slot (OwnTurn.OwnLocks o plan is) on = record { left = with_lock o call; is = is; request = refl }
flies call slot (OwnTurn.OwnChecks plan is) on = record { left = moved_on call; is = is; request = refl }
flies call slot (OwnTurn.OwnFinishes plan is) on = record { left = without_lock call; is = is; request = refl }
flies call slot (OwnTurn.OwnAborts ends word is) on = record { left = without_number call; is = is; request = refl }
flies call slot (OwnTurn.OwnFrees ends word is) on = record { left = without_look call; is = is; request = refl }
flies call slot (OwnTurn.OwnLeaves ends word is) on = absurd (let no : false ≡ true = sym on ∙ ap is_exit (next_word-closing call ends ∙ word) in cc)

never_exits : (call : InFlight) (slot : Option InFlight) (w : Word) → next_word call ≡ w → is_exit w ≡ false → next_word call ≡ Exit → slot ≡ None
never_exits call slot w word on exit = absurd (let no : false ≡ true = sym on ∙ ap is_exit (sym word ∙ exit) in cc)

refused_on : (w : Word) → may_refuse w ≡ true → is_exit w ≡ false
refused_on Reserve e = refl
refused_on Look e = refl
refused_on Make e = refl
refused_on Commit e = refl
refused_on Act e = refl
refused_on Lock e = refl
refused_on Check e = refl
refused_on Finish e = refl
refused_on Abort e = refl
refused_on Free e = refl
refused_on Exit e = absurd cc

leaves : (call : InFlight) (slot : Option InFlight) → OwnTurn call slot → next_word call ≡ Exit → slot ≡ None
leaves call slot (OwnTurn.OwnRefuses w e plan may is) exit = never_exits call slot w (planned_word call w plan) (refused_on w may) exit
leaves call slot (OwnTurn.OwnReserves n plan is) exit = never_exits call slot Reserve (planned_word call Reserve plan) refl exit
leaves call slot (OwnTurn.OwnLooks o plan is) exit = never_exits call slot Look (planned_word call Look plan) refl exit
leaves call slot (OwnTurn.OwnMakes o outcome plan is) exit = never_exits call slot Make (planned_word call Make plan) refl exit
leaves call slot (OwnTurn.OwnCommits plan is) exit = never_exits call slot Commit (planned_word call Commit plan) refl exit
leaves call slot (OwnTurn.OwnDoes outcome plan is) exit = never_exits call slot Act (planned_word call Act plan) refl exit
leaves call slot (OwnTurn.OwnLocks o plan is) exit = never_exits call slot Lock (planned_word call Lock plan) refl exit
leaves call slot (OwnTurn.OwnChecks plan is) exit = never_exits call slot Check (planned_word call Check plan) refl exit
leaves call slot (OwnTurn.OwnFinishes plan is) exit = never_exits call slot Finish (planned_word call Finish plan) refl exit
leaves call slot (OwnTurn.OwnAborts ends word is) exit = never_exits call slot Abort (next_word-closing call ends ∙ word) refl exit
leaves call slot (OwnTurn.OwnFrees ends word is) exit = never_exits call slot Free (next_word-closing call ends ∙ word) refl exit
leaves call slot (OwnTurn.OwnLeaves ends word is) exit = is

-- a call that makes an object keeps what it looked at
pub record Keeps (call left : InFlight) : Type 0 where
  pub request : left.request ≡ call.request
  pub looked : left.looked ≡ call.looked

keeps_as : (call next left : InFlight) → next.request ≡ call.request → next.looked ≡ call.looked → Some next ≡ Some left → Keeps call left
keeps_as call next left request looked is =
    let same = same_Some next left is in
    record { request = ap (λ (k : InFlight). k.request) (sym same) ∙ request; looked = ap (λ (k : InFlight). k.looked) (sym same) ∙ looked }

made_keeps : (call : InFlight) (slot : Option InFlight) (left : InFlight) → OwnTurn call slot → next_word call ≡ Make → slot ≡ Some left → Keeps call left
made_keeps call slot left (OwnTurn.OwnRefuses w e plan may is) make there = keeps_as call (with_refusal e call) left refl refl (sym is ∙ there)
made_keeps call slot left (OwnTurn.OwnReserves n plan is) make there = keeps_as call (with_number (Some n) call) left refl refl (sym is ∙ there)
made_keeps call slot left (OwnTurn.OwnLooks o plan is) make there = absurd (let no : true ≡ false = ap is_look (sym (planned_word call Look plan) ∙ make) in cc)
made_keeps call slot left (OwnTurn.OwnMakes o outcome plan is) make there = keeps_as call (with_made o outcome call) left refl refl (sym is ∙ there)
made_keeps call slot left (OwnTurn.OwnCommits plan is) make there = keeps_as call (without_lock call) left refl refl (sym is ∙ there)
made_keeps call slot left (OwnTurn.OwnDoes outcome plan is) make there = keeps_as call (with_outcome outcome call) left refl refl (sym is ∙ there)
made_keeps call slot left (OwnTurn.OwnLocks o plan is) make there = keeps_as call (with_lock o call) left refl refl (sym is ∙ there)
made_keeps call slot left (OwnTurn.OwnChecks plan is) make there = keeps_as call (moved_on call) left refl refl (sym is ∙ there)
made_keeps call slot left (OwnTurn.OwnFinishes plan is) make there = keeps_as call (without_lock call) left refl refl (sym is ∙ there)
made_keeps call slot left (OwnTurn.OwnAborts ends word is) make there = keeps_as call (without_number call) left refl refl (sym is ∙ there)
made_keeps call slot left (OwnTurn.OwnFrees ends word is) make there = absurd (let no : true ≡ false = ap unwinds (sym (next_word-closing call ends ∙ word) ∙ make) in cc)
made_keeps call slot left (OwnTurn.OwnLeaves ends word is) make there = absurd (let no : true ≡ false = ap unwinds (sym (next_word-closing call ends ∙ word) ∙ make) in cc)

-- The words of a call that has a deed out.

-- a call that creates commits
commits_by : (call : InFlight) (kind : Kind) (w : Word) → role_of call.request ≡ Creates kind → next_word call ≡ w → is_giving w ≡ true → w ≡ Commit
commits_by call kind Reserve creates is giving = absurd cc
commits_by call kind Look creates is giving = absurd cc
commits_by call kind Make creates is giving = absurd cc
commits_by call kind Commit creates is giving = refl
commits_by call kind Act creates is giving = absurd cc
commits_by call kind Lock creates is giving = absurd cc
commits_by call kind Check creates is giving = absurd cc
commits_by call kind Finish creates is giving =
    let s = stands_in_plan call Finish (in_plan call Finish is refl) in
    absurd (let no : Creates kind ≡ Destroys s.asked = sym creates ∙ s.destroys in cc)
commits_by call kind Abort creates is giving = absurd cc
commits_by call kind Free creates is giving = absurd cc
commits_by call kind Exit creates is giving = absurd cc

-- and one that destroys finishes
finishes_by : (call : InFlight) (asked : Ask) (w : Word) → role_of call.request ≡ Destroys asked → next_word call ≡ w → is_giving w ≡ true → w ≡ Finish
finishes_by call asked Reserve destroys is giving = absurd cc
finishes_by call asked Look destroys is giving = absurd cc
finishes_by call asked Make destroys is giving = absurd cc
finishes_by call asked Commit destroys is giving =
    let s = stands_in_plan call Commit (in_plan call Commit is refl) in
    absurd (let no : Destroys asked ≡ Creates s.kind = sym destroys ∙ s.creates in cc)
finishes_by call asked Act destroys is giving = absurd cc
finishes_by call asked Lock destroys is giving = absurd cc
finishes_by call asked Check destroys is giving = absurd cc
finishes_by call asked Finish destroys is giving = refl
finishes_by call asked Abort destroys is giving = absurd cc
finishes_by call asked Free destroys is giving = absurd cc
finishes_by call asked Exit destroys is giving = absurd cc

goes_on : (x : Option Object) (w : Word) → goes_plain x w ≡ true → is_exit w ≡ false
goes_on x Reserve e = refl
goes_on x Look e = refl
goes_on x Make e = refl
goes_on x Commit e = refl
goes_on x Act e = refl
goes_on x Lock e = refl
goes_on x Check e = refl
goes_on x Finish e = refl
goes_on x Abort e = refl
goes_on x Free e = refl
goes_on x Exit e = absurd cc

acts_on : (role : Role) (w : Word) → touches_at role w ≡ true → is_exit w ≡ false
acts_on role Reserve e = refl
acts_on role Look e = refl
acts_on role Make e = refl
acts_on role Commit e = refl
acts_on role Act e = refl
acts_on role Lock e = refl
acts_on role Check e = refl
acts_on role Finish e = refl
acts_on role Abort e = refl
acts_on role Free e = refl
acts_on role Exit e = absurd cc

-- who has no call in flight has no deed out for one
none_by : (k : Kept) (c : ℕ) (slot : Option Out) → AreOut k → call_of (state_of k.history) c ≡ None → out_of k c ≡ slot → slot ≡ None
none_by k c None outs free is = refl
none_by k c (Some out) outs free is =
    let has = outs.outs c out is in
    absurd (none-some has.call (sym free ∙ has.is))

pub none_out : (k : Kept) (c : ℕ) → AreOut k → IsFree (own_of k c) → out_of k c ≡ None
none_out k c outs free = none_by k c (out_of k c) outs free refl

put_none : (slot : Option (Option Out)) → the_out (option_map (put_out None) slot) ≡ None
put_none None = refl
put_none (Some x) = refl

pub none_here : (old new : List (Option Out)) (c : ℕ) → new ≡ at_place old c (put_out None) → the_out (slice_get new c) ≡ None
none_here old new c is = ap (λ v. the_out (slice_get v c)) is ∙ ap the_out (slice_get-at_place_same old c (put_out None)) ∙ put_none (slice_get old c)

module _ (old new : Kept) (c : ℕ) (after_legal : IsLegal new.history) where
  -- a step of the call: what it was, and what it left
  pub record IsStepped (d : CallStep) : Type 0 where
    pub call : InFlight
    pub is : call_of (state_of old.history) c ≡ Some call
    pub word : next_word call ≡ d.word
    pub own : OwnTurn call (call_of (state_of new.history) c)

  stepped : (d : CallStep) → new.history ≡ old.history ++ step_entry c d ∷ [] → IsStepped d
  stepped d more =
      let m = state_of old.history in
      let P : List Entry → Type 0 = λ h. IsLegal h in
      let allowed = last_from start old.history (step_entry c d) (subst P more after_legal) in
      let t = IsTurn-allowed m c d.word d.object d.found d.answer allowed in
      let k = calls_turn m c t.call d.answer (after m (step_entry c d)) t.turn in
      let now : state_of new.history ≡ after m (step_entry c d) = ap state_of more ∙ state_goes_on old.history (step_entry c d) in
      let here : call_of (state_of new.history) c ≡ k.change (Some t.call) = ap (λ s. call_of s c) now ∙ call_of-changed m (after m (step_entry c d)) c k.change t.call k.calls t.is in
      let Q : Option InFlight → Type 0 = λ slot. OwnTurn t.call slot in
      record { call = t.call; is = t.is; word = t.word; own = subst Q (sym here) k.own }

  -- the call goes on, and may be stepped
  ready : (d : CallStep) → IsClient c → new.history ≡ old.history ++ step_entry c d ∷ [] → is_exit d.word ≡ false → out_of new c ≡ None → IsReady is_any (own_of new c)
  ready d client more on none =
      let s = stepped d more in
      let f = flies s.call (call_of (state_of new.history) c) s.own (ap is_exit s.word ∙ on) in
      record { client = client; call = f.left; is = f.is; does_it = refl; none = none }

  plants : {D : Type 0} (tell : D → DeedFacts) (deed : D) (object : ℕ) (kind : Kind) → IsClient c → AreOut new → PlantsFor old new c (tell deed) object kind
      → HasToPlant (own_of new c) (tell deed) object kind
  plants tell deed object kind client outs g =
      let x = g.hands.item in
      let out : Out = out_for x.uses x in
      let is = g.hands.in_hand in
      let s = stepped g.done g.hands.notes.history in
      let has = outs.outs c out is in
      let make : next_word s.call ≡ Make = s.word ∙ g.word in
      let plan = stands_in_plan s.call Make (in_plan s.call Make make refl) in
      let keeps = made_keeps s.call (call_of (state_of new.history) c) has.call s.own make has.is in
      let was : g.hands.call ≡ s.call = same_Some g.hands.call s.call (sym g.hands.is ∙ s.is) in
      let request : g.hands.call.request ≡ has.call.request = ap (λ (k : InFlight). k.request) was ∙ sym keeps.request in
      let looked : g.hands.call.looked ≡ has.call.looked = ap (λ (k : InFlight). k.looked) was ∙ sym keeps.looked in
      let made : Request → Ids → Kind → Identity = λ r ids of. record { id = object; kind = of; request = r; uses = ids } in
      let Q : Option Out → Type 0 = λ v. IsDeedForNew (tell deed) out (lives_out new.history v) in
      let role : role_of has.call.request ≡ Creates plan.kind = ap role_of keeps.request ∙ plan.creates in
      record {
        client = client;
        call = has.call;
        is = has.is;
        word = commits_by has.call plan.kind (next_word has.call) role refl has.word;
        identity =
            g.hands.identity ∙ ap (λ r. made r g.hands.call.looked x.kind) request ∙ ap (λ ids. made has.call.request ids x.kind) looked
            ∙ ap (λ of. made has.call.request has.call.looked of) g.of_kind;
        out = out;
        out_is = is;
        deed = subst Q (sym is) g.hands.deed;
      }

  buries : {D : Type 0} (tell : D → DeedFacts) (deed : D) (object : ℕ) (kind : Kind) → IsClient c → AreOut new → RetiresFor old new c (tell deed) object kind
      → HasToBury (own_of new c) (tell deed)
  buries tell deed object kind client outs g =
      let x = g.hands.item in
      let out : Out = out_in old.history x in
      let is = g.hands.in_hand in
      let s = stepped g.done g.hands.notes.history in
      let has = outs.outs c out is in
      let check : next_word s.call ≡ Check = s.word ∙ g.word in
      let plan = stands_in_plan s.call Check (in_plan s.call Check check refl) in
      let f = flies s.call (call_of (state_of new.history) c) s.own (ap is_exit check) in
      let left : f.left ≡ has.call = same_Some f.left has.call (sym f.is ∙ has.is) in
      let Q : Option Out → Type 0 = λ v. IsDeedPlantedFor (tell deed) out (lives_out new.history v) in
      let role : role_of has.call.request ≡ Destroys plan.asked = ap (λ (k : InFlight). role_of k.request) (sym left) ∙ ap role_of f.request ∙ plan.destroys in
      record {
        client = client;
        call = has.call;
        is = has.is;
        word = finishes_by has.call plan.asked (next_word has.call) role refl has.word;
        out = out;
        out_is = is;
        deed = subst Q (sym is) g.hands.deed;
      }

  pub step_leads : {D : Type 0} (tell : D → DeedFacts) (p : Progress D) → IsReady is_any (own_of old c) → AreOut new → StepGives tell old new c p → StepLeads tell (own_of new c) p
  step_leads tell (progress.Went w) r outs g =
      ready g.done r.client g.notes.history (ap is_exit g.word ∙ goes_on (object_with (state_of old.history) g.done.object) w g.plain) (ap (λ v. the_out (slice_get v c)) g.notes.outs ∙ r.none)
  step_leads tell (progress.Refused w e) r outs g =
      ready g.done r.client g.notes.history (ap is_exit g.word ∙ g.goes_on) (ap (λ v. the_out (slice_get v c)) g.notes.outs ∙ r.none)
  step_leads tell (progress.Plant deed object kind) r outs g =
      plants tell deed object kind r.client outs g
  step_leads tell (progress.Touch kind index generation) r outs g =
      let P : Kept → Type 0 = λ k. HasToAct (own_of k c) in
      subst P (sym g.same) (record { client = r.client; call = g.call; is = g.is; awaits_it = g.awaits_it; none = r.none })
  step_leads tell (progress.Retire deed object kind) r outs g =
      buries tell deed object kind r.client outs g
  step_leads tell (progress.Ended a) r outs g =
      let s = stepped g.done g.notes.history in
      leaves s.call (call_of (state_of new.history) c) s.own (s.word ∙ g.word)

  pub act_leads : (found : Option QpState) (a : Answer) → IsTouching (own_of old c) found → ActsBy old new c found a → IsReady is_any (own_of new c)
  act_leads found a t g =
      let s = stepped g.done g.notes.history in
      let same : t.call ≡ s.call = same_Some t.call s.call (sym t.is ∙ s.is) in
      let on = acts_on (role_of s.call.request) (next_word s.call) (ap awaits (sym same) ∙ t.awaits_it) in
      ready g.done t.client g.notes.history (ap is_exit (sym s.word) ∙ on) (ap (λ v. the_out (slice_get v c)) g.notes.outs ∙ t.none)

  pub finish_leads : (t : DeedFacts) (kept : ℕ) → IsFinishing (own_of old c) t → FinishesBy old new c kept → IsReady is_any (own_of new c)
  finish_leads t kept f g = ready g.done f.client g.notes.history (ap is_exit g.word) (none_here old.outs new.outs c g.notes.outs)

  pub planted_leads : (t : DeedFacts) → ComesPlanted (own_of old c) t → HasNoOut old new c → IsClient c → IsReady is_any (own_of new c)
  planted_leads t p n client = record {
    client = client;
    call = p.call;
    is = ap (λ h. call_of (state_of h) c) n.history ∙ p.is;
    does_it = refl;
    none = none_here old.outs new.outs c n.outs;
  }

  -- Enters.

  refused_free : (f : ℕ) (request : Request) (e : Errno) → IsFree (own_of old c) → new.history ≡ old.history ++ entry.Enter c f request (answer.Refused e) ∷ [] → IsFree (own_of new c)
  refused_free f request e free more =
      ap (λ h. call_of (state_of h) c) more ∙ ap (λ s. call_of s c) (state_goes_on old.history (entry.Enter c f request (answer.Refused e))) ∙ free

  pub refuse_leads : (f : ℕ) (request : Request) (e : Errno) → IsFree (own_of old c) → NotesSpared old new (entry.Enter c f request (answer.Refused e)) c → IsFree (own_of new c)
  refuse_leads f request e free n = refused_free f request e free n.history

  refused_or : (f : ℕ) (request : Request) (e : Errno) → IsFree (own_of old c) → NotesOrSpares old new (entry.Enter c f request (answer.Refused e)) c → IsFree (own_of new c)
  refused_or f request e free (NotesOrSpares.InNew n) = refused_free f request e free n.history
  refused_or f request e free (NotesOrSpares.InSpare n less) = refused_free f request e free n.history

  pub enter_leads : (f : ℕ) (request : Request) (r : Result (Unit {0}) Errno) → IsClient c → IsLegal old.history → AreOut old → IsFree (own_of old c) → EnterGives old new c f request r → EnterLeads (own_of new c) r
  enter_leads f request (Ok u) client legal outs free g =
      let m = state_of old.history in
      let long = (Reached-state_of old.history legal).calls in
      let low = client.1 in
      let now : state_of new.history ≡ after m (entry.Enter c f request answer.Ok) = ap state_of g.notes.history ∙ state_goes_on old.history (entry.Enter c f request answer.Ok) in
      let there : slice_get m.calls c ≡ Some (get_or m.calls c None) = slice_get-get_or m.calls c None (omega (arith, long, low)) in
      record {
        client = client;
        call = entered f request;
        is = ap (λ s. call_of s c) now ∙ ap the_call (slice_get-at_place_same m.calls c (put_call (entered f request))) ∙ ap (λ v. the_call (option_map (put_call (entered f request)) v)) there;
        does_it = refl;
        none = ap (λ v. the_out (slice_get v c)) g.notes.outs ∙ none_out old c outs free;
      }
  enter_leads f request (Err e) client legal outs free (inl g) = refused_or f request e free g.notes
  enter_leads f request (Err e) client legal outs free (inr g) = (let P : Kept → Type 0 = λ k. IsFree (own_of k c) in subst P (sym g.dry.same) free)
