-- What is known of a call that acts: its words, and that what it acts on stands there.
use Rattle.std.proofs.Common.{◌≡◌, ℕ, ◌≤◌, Bool, true, false, List, [], ◌∷◌, Option, Some, None, length, refl, ap, sym, ◌∙◌, arith}
use Rattle.std.specs.Prelude.{slice_get, unwrap_or, is_some, ◌==◌, ◌||◌}
use Rattle.std.specs.List.{list_any}
use Rattle.std.proofs.lemmas.Option.{none-some}
use Rattle.std.proofs.lemmas.Bool.{eq-eqb}
use Rattle.uv_num.specs.declared.errno.Errno.{Errno}
use Rattle.uv_num.specs.declared.limits.TheConstants.{NONE}
use Rattle.uv_num.specs.declared.request.Request.{Request}
use Rattle.uv_num.specs.declared.request.Request.TheVariants.{AllocPd, DeallocPd, CreateChannel, DestroyChannel, CreateCq, DestroyCq, CreateQp, DestroyQp, ModifyQp, QueryQp, CreateSrq, DestroySrq, CreateAh, DestroyAh, RegMr, DeregMr, AllocMw, DeallocMw, BindMw, GetAsync}
use Rattle.uv_num.specs.declared.request.Role.{Role}
use Rattle.uv_num.specs.Ids.{ids_of, is_number}
use Rattle.uv_num.specs.Looks.{looks_of}
use Rattle.uv_num.specs.Request.{role_of}
use Rattle.uv_machine.specs.declared.entry.Entry.{Entry}
use Rattle.uv_machine.specs.declared.entry.Word.{Word}
use Rattle.uv_machine.specs.declared.entry.Word.TheVariants.{Reserve, Look, Make, Commit, Act, Lock, Check, Finish, Abort, Free, Exit}
use Rattle.uv_machine.specs.declared.call.InFlight.{InFlight}
use Rattle.uv_machine.specs.declared.object.Object.{Object}
use Rattle.uv_machine.specs.Plans.{next_word, acted_on, looks_at}
use Rattle.uv_machine.specs.States.{call_of, object_with}
use Rattle.uv_machine.specs.Histories.{IsLegal, state_of}
use Rattle.uv_machine.specs.Reached.{IsPhased, look_count}
use Rattle.uv_machine.proofs.Planned.{StandsAt, unwinds, in_plan, stands_in_plan}
use Rattle.uv_machine.proofs.Phased.{act_has}
use Rattle.uv_machine.proofs.Reaching.{Reached-state_of}
use Rattle.uv_machine.proofs.Standing.{legal_looks_stand}
use Rattle.uv_graph.specs.Conditions.{is_act, role_touches, touches_at, awaits}
use Rattle.uv_graph.specs.Turns.{is_exit, goes_plain}
use Rattle.uv_graph.proofs.Holders.{object_is}

-- The words of a call that acts.

-- the words of the plans of creates and destroys alone
abbrev pub is_foreign : Word → Bool
is_foreign Reserve = true
is_foreign Look = false
is_foreign Make = true
is_foreign Commit = true
is_foreign Act = false
is_foreign Lock = true
is_foreign Check = true
is_foreign Finish = true
is_foreign Abort = false
is_foreign Free = false
is_foreign Exit = false

or_true : (b : Bool) → (b || true) ≡ true
or_true true = refl
or_true false = refl

-- the other words hand no deed out
pub acts_go : (w : Word) (r : Option Errno) (x : Option Object) → (is_foreign w ≡ true → ⊥) → (is_exit w || (is_some r || goes_plain x w)) ≡ true
acts_go Reserve r x own = or_true (is_some r)
acts_go Look r x own = or_true (is_some r)
acts_go Make r x own = absurd (own refl)
acts_go Commit r x own = or_true (is_some r)
acts_go Act r x own = or_true (is_some r)
acts_go Lock r x own = or_true (is_some r)
acts_go Check r x own = absurd (own refl)
acts_go Finish r x own = absurd (own refl)
acts_go Abort r x own = or_true (is_some r)
acts_go Free r x own = or_true (is_some r)
acts_go Exit r x own = refl

acts_alone : (role : Role) (looks place : ℕ) (w : Word) → is_act role ≡ true → is_foreign w ≡ true → StandsAt role looks place w → ⊥
acts_alone role looks place Reserve acts e s = let no = ap is_act s.creates in cc
acts_alone role looks place Look acts e s = cc
acts_alone role looks place Make acts e s = let no = ap is_act s.creates in cc
acts_alone role looks place Commit acts e s = let no = ap is_act s.creates in cc
acts_alone role looks place Act acts e s = cc
acts_alone role looks place Lock acts e s = let no = ap is_act s.destroys in cc
acts_alone role looks place Check acts e s = let no = ap is_act s.destroys in cc
acts_alone role looks place Finish acts e s = let no = ap is_act s.destroys in cc
acts_alone role looks place Abort acts e s = cc
acts_alone role looks place Free acts e s = cc
acts_alone role looks place Exit acts e s = cc

foreign_forward : (w : Word) → is_foreign w ≡ true → unwinds w ≡ false
foreign_forward Reserve e = refl
foreign_forward Look e = refl
foreign_forward Make e = refl
foreign_forward Commit e = refl
foreign_forward Act e = refl
foreign_forward Lock e = refl
foreign_forward Check e = refl
foreign_forward Finish e = refl
foreign_forward Abort e = absurd cc
foreign_forward Free e = absurd cc
foreign_forward Exit e = absurd cc

-- a call that acts makes none of these
pub acts_plainly : (call : InFlight) (w : Word) → is_act (role_of call.request) ≡ true → next_word call ≡ w → is_foreign w ≡ true → ⊥
acts_plainly call w acts e foreign =
    acts_alone (role_of call.request) (length (looks_of call.request)) call.place w acts foreign
    (stands_in_plan call w (in_plan call w e (foreign_forward w foreign)))

-- What an act touches.

pub touches_word : (role : Role) (w : Word) → touches_at role w ≡ true → w ≡ Act
touches_word role Reserve e = absurd cc
touches_word role Look e = absurd cc
touches_word role Make e = absurd cc
touches_word role Commit e = absurd cc
touches_word role Act e = refl
touches_word role Lock e = absurd cc
touches_word role Check e = absurd cc
touches_word role Finish e = absurd cc
touches_word role Abort e = absurd cc
touches_word role Free e = absurd cc
touches_word role Exit e = absurd cc

pub awaits_word : (call : InFlight) → awaits call ≡ true → next_word call ≡ Act
awaits_word call e = touches_word (role_of call.request) (next_word call) e

awaits_role : (call : InFlight) → awaits call ≡ true → role_touches (role_of call.request) ≡ true
awaits_role call e = ap (touches_at (role_of call.request)) (sym (awaits_word call e)) ∙ e

-- a request that touches a cell names the object that has it
touched_named : (request : Request) → role_touches (role_of request) ≡ true → 1 ≤ length (looks_of request)
touched_named AllocPd e = absurd cc
touched_named (DeallocPd pd) e = absurd cc
touched_named CreateChannel e = absurd cc
touched_named (DestroyChannel channel) e = absurd cc
touched_named (CreateCq depth channel) e = absurd cc
touched_named (DestroyCq cq) e = absurd cc
touched_named (CreateQp pd send_cq recv_cq srq service send_depth recv_depth) e = absurd cc
touched_named (DestroyQp qp) e = absurd cc
touched_named (ModifyQp qp to attrs) e = omega arith
touched_named (QueryQp qp) e = omega arith
touched_named (CreateSrq pd depth) e = absurd cc
touched_named (DestroySrq srq) e = absurd cc
touched_named (CreateAh pd device) e = absurd cc
touched_named (DestroyAh ah) e = absurd cc
touched_named (RegMr pd long access) e = absurd cc
touched_named (DeregMr mr) e = absurd cc
touched_named (AllocMw pd) e = absurd cc
touched_named (DeallocMw mw) e = absurd cc
touched_named (BindMw mw mr offset long access) e = omega arith
touched_named GetAsync e = absurd cc

-- a call that acts looks at all that its request names
acts_with : (call : InFlight) → IsPhased call → next_word call ≡ Act → look_count call ≡ length (looks_of call.request)
acts_with call p e =
    let plan = in_plan call Act e refl in
    let acting = stands_in_plan call Act plan in
    let has = act_has call acting.act p plan.fine acting.acts in
    let here = has.looking (omega (arith, acting.at)) in
    here.looks_are ∙ acting.at

or_first : (a b : Bool) → a ≡ true → (a || b) ≡ true
or_first true b e = refl
or_first false b e = absurd cc

first_looked : (os : List ℕ) → 1 ≤ length os → list_any (is_number (unwrap_or (slice_get os 0) NONE)) os ≡ true
first_looked [] some = absurd (omega (arith, some))
first_looked (o ∷ os) some = or_first (o == o) (list_any (is_number o) os) (eq-eqb o o refl)

acts_on_looked : (call : InFlight) → 1 ≤ look_count call → looks_at (acted_on call) call ≡ true
acts_on_looked call some = first_looked (ids_of call.looked) some

-- the object that is touched stands there
pub touched_stands : (h : List Entry) (c : ℕ) (call : InFlight) → IsLegal h → call_of (state_of h) c ≡ Some call → awaits call ≡ true → object_with (state_of h) (acted_on call) ≡ None → ⊥
touched_stands h c call legal is e none =
    let r = Reached-state_of h legal in
    let looks = acts_with call (r.phased c call is) (awaits_word call e) in
    let named = touched_named call.request (awaits_role call e) in
    let stands = legal_looks_stand h legal c (acted_on call) call is (acts_on_looked call (omega (arith, looks, named))) in
    none-some stands.item (sym none ∙ ap (object_with (state_of h)) (sym stands.id) ∙ object_is (state_of h) stands.item r stands.within)
