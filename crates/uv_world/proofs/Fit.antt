-- A stage whose cells fit its objects fits after each entry.
use Rattle.std.proofs.Common.{◌≡◌, ◌∙◌, ◌<◌, ◌+◌, ℕ, true, false, List, [], ◌∷◌, ◌++◌, Option, None, Some, length, refl, sym, ap, subst, arith}
use Rattle.std.specs.Prelude.{◌||◌, nat_lt, find, is_none, option_map, if◌then◌else◌}
use Rattle.std.proofs.lemmas.Bool.{eqb-true}
use Rattle.std.proofs.lemmas.Bool.Decides.{nat_tests}
use Rattle.std.proofs.lemmas.Option.{slice_get-map}
use Rattle.uv_num.specs.declared.errno.Errno.{Errno}
use Rattle.uv_num.specs.declared.limits.TheConstants.{MOST_OBJECTS}
use Rattle.uv_num.specs.declared.qp.QpState.{QpState}
use Rattle.uv_num.specs.Looks.{looks_of}
use Rattle.uv_machine.specs.declared.call.InFlight.{InFlight}
use Rattle.uv_machine.specs.declared.entry.Answer.{Answer}
use Rattle.uv_machine.specs.declared.entry.Entry.TheVariants.{Step}
use Rattle.uv_machine.specs.declared.entry.Word.{Word}
use Rattle.uv_machine.specs.declared.entry.Word.TheVariants.{Make, Finish}
use Rattle.uv_machine.specs.declared.object.Object.{Object}
use Rattle.uv_machine.specs.declared.object.Phase.{Phase}
use Rattle.uv_machine.specs.declared.object.Phase.TheVariants as phase
use Rattle.uv_machine.specs.declared.state.State.{State}
use Rattle.uv_machine.specs.Histories.{Allowed, after, state_of}
use Rattle.uv_machine.specs.Laws.{CallsStandApart, LegalGoesOn, LegalIsCelled, LegalIsReached, LegalOwnStands, MakeHasRoom, StateGoesOn}
use Rattle.uv_machine.specs.Objects.{has_id, is_doomed, is_husk}
use Rattle.uv_machine.specs.Plans.{next_word, own_object}
use Rattle.uv_machine.specs.Reached.{IsIn, IsRising, OwnStands, Reached, is_held_at}
use Rattle.uv_machine.specs.States.{call_of}
use Rattle.uv_machine.specs.Steps.{told}
use Rattle.uv_machine.proofs.Graph.{find_rising}
use Rattle.uv_machine.proofs.Keeping.{owns_at_finish}
use Rattle.uv_machine.proofs.OwnCall.{call_stands}
use Rattle.uv_machine.proofs.Planned.{in_plan, stands_in_plan}
use Rattle.uv_machine.proofs.Turns.{IsTurn-allowed}
use Rattle.uv_world.specs.declared.content.Content.{Content}
use Rattle.uv_world.specs.Celled.{slot_value, value_of_slot}
use Rattle.uv_world.specs.Fitting.{AllTellAfterMake, FittingGoesOn, StageFits, StepInRange, TellsAfterMake}
use Rattle.uv_world.specs.Making.{content_for}
use Rattle.uv_world.specs.Stages.{Stage, stage_then}
use Rattle.uv_world.specs.Waiting.{WaitsByCalls, tells_of_made, waiting_of}
use Rattle.uv_world.proofs.Fitted.{Fits, IsOver, MadeAs, StepNeeds, content_made, fit_entry}
use Rattle.uv_world.proofs.Living.{is_alive, no_way}
use Rattle.uv_world.proofs.Telling.{all_tell_after}
use Rattle.uv_world.proofs.Waiting.{waiting_goes_on}

-- What waits for a make.

waits_made : (s : Stage) (a : ℕ) (call : InFlight) → WaitsByCalls s → call_of (state_of s.history) a ≡ Some call → tells_of_made call.outcome ≡ false → value_of_slot s.held.pending a ≡ content_for call.request
waits_made s a call waits is untold =
    ap (λ (v : List (Option Content)). value_of_slot v a) waits
    ∙ (ap slot_value (slice_get-map waiting_of (state_of s.history).calls a)
    ∙ (ap (λ (v : Option (Option InFlight)). slot_value (option_map waiting_of v)) (call_stands (state_of s.history) a call is)
    ∙ ap (λ b. if b then None else content_for call.request) untold))

-- before its Make a call tells of no object
untold_at : (call : InFlight) → TellsAfterMake call → next_word call ≡ Make → tells_of_made call.outcome ≡ false
untold_at call tell word =
    let plan = in_plan call Make word refl in
    let at : call.place ≡ length (looks_of call.request) + 1 = (stands_in_plan call Make plan).at in
    no_way (tells_of_made call.outcome) (λ says. (let low = tell says in omega (arith, low, at)))

-- What a finish finds.

dead_at_finish : (p : Phase) → (is_doomed p || is_husk p) ≡ true → is_alive p ≡ false
dead_at_finish phase.Made e = absurd cc
dead_at_finish phase.Live e = absurd cc
dead_at_finish phase.Doomed e = refl
dead_at_finish phase.Husk e = refl

one_with_id : (objects : List Object) (top : ℕ) (x y : Object) → IsRising 0 objects top → IsIn x objects → IsIn y objects → x.id ≡ y.id → x ≡ y
one_with_id objects top x y rising at at' same =
    let both : Some x ≡ Some y = sym (find_rising 0 top x objects at rising) ∙ (ap (λ n. find (has_id n) objects) same ∙ find_rising 0 top y objects at' rising) in
    cc

over_at : (m : State) (a o : ℕ) (call : InFlight) → Reached m → OwnStands m → call_of m a ≡ Some call → next_word call ≡ Finish → own_object call ≡ o → IsOver m o
over_at m a o call r stands is word own x at id =
    let locked = owns_at_finish m r a call is (in_plan call Finish word refl) in
    let s = stands a (own_object call) call is locked in
    let held : is_held_at Finish s.item.phase ≡ true = ap (λ v. is_held_at v s.item.phase) (sym word) ∙ s.held in
    let same : x ≡ s.item = one_with_id m.objects m.made x s.item r.graph.rising at s.within (eqb-true x.id o id ∙ (sym own ∙ sym s.id)) in
    ap (λ (v : Object). is_alive v.phase) same ∙ dead_at_finish s.item.phase held

-- What a step needs.

lt_true : (a b : ℕ) → a < b → nat_lt a b ≡ true
lt_true a b e = grind (arith, nat_tests)

same_call : (slot : Option InFlight) (j k : InFlight) → slot ≡ Some j → slot ≡ Some k → j ≡ k
same_call slot j k ej ek = let both : Some j ≡ Some k = sym ej ∙ ek in cc

step_needs :
    (s : Stage) → StageFits s → LegalIsReached → LegalOwnStands → MakeHasRoom → (a o : ℕ) (w : Word) (found : Option QpState) (said : Answer) → Allowed (state_of s.history) (Step a w o found said)
    → StepInRange (state_of s.history) (Step a w o found said) → (call : InFlight) → call_of (state_of s.history) a ≡ Some call → StepNeeds s.held (state_of s.history) a o call w said
step_needs s f reached stands room a o w found said allowed range call is =
    let m = state_of s.history in
    let t = IsTurn-allowed m a w o found said allowed in
    let same : t.call ≡ call = same_call (call_of m a) t.call call t.is is in
    let word : next_word call ≡ w = ap next_word (sym same) ∙ t.word in
    let object : (told m a call found w).object ≡ o = ap (λ (v : InFlight). (told m a v found w).object) (sym same) ∙ t.object in
    record {
      made = λ is_make k creates.
          let waits = waits_made s a call f.waits is (untold_at call (f.tell a call is) (word ∙ is_make)) in
          let P : Option Content → Type 0 = λ v. MadeAs k v in
          subst P (sym waits) (content_made call.request k (range call is) creates);
      room = λ is_make fine.
          let P : Word → Type 0 = λ v. Allowed m (Step a v o found said) in
          let low = room s.history (Step a Make o found said) f.legal (subst P is_make allowed) (ap (λ (v : Option Errno). is_none v) fine) in
          lt_true (length m.objects) MOST_OBJECTS low;
      over = λ is_finish. over_at m a o call (reached s.history f.legal) (stands s.history f.legal) is (word ∙ is_finish) (ap (λ v. (told m a call found v).object) (sym is_finish) ∙ object);
    }

pub fitting_goes_on : LegalIsReached → LegalIsCelled → LegalOwnStands → MakeHasRoom → CallsStandApart → LegalGoesOn → StateGoesOn → FittingGoesOn
fitting_goes_on reached celled stands room apart legal more s e f allowed range =
    let m = state_of s.history in
    let now : state_of (s.history ++ e ∷ []) ≡ after m e = more s.history e in
    let fits = fit_entry s.held m e allowed range (step_needs s f reached stands room) (record { cells = f.cells; fit = f.fit }) (celled s.history f.legal) (reached s.history f.legal).graph.rising in
    let F : State → Type 0 = λ v. Fits (stage_then s e).held v in
    let T : State → Type 0 = λ v. AllTellAfterMake v in
    record {
      legal = legal s.history e f.legal allowed;
      cells = fits.cells;
      waits = waiting_goes_on s e f.waits;
      tell = subst T (sym now) (all_tell_after m e apart allowed f.tell);
      fit = (subst F (sym now) fits).fit;
    }
