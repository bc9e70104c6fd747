-- What an allowed step of a call was, and what it found.
use Rattle.std.proofs.Common.{◌≡◌, ℕ, Bool, true, false, Option, Some, None, refl, ap, sym, ◌∙◌, subst}
use Rattle.std.specs.Prelude.{◌==◌, is_none, slice_get, if◌then◌else◌}
use Rattle.std.proofs.lemmas.Option.{none-some, same_Some}
use Rattle.uv_num.specs.declared.errno.Errno.{Errno}
use Rattle.uv_num.specs.declared.errno.Errno.TheVariants.{NoSpc, Busy}
use Rattle.uv_num.specs.declared.kind.Kind.{Kind}
use Rattle.uv_num.specs.declared.limits.TheConstants.{NONE}
use Rattle.uv_num.specs.declared.qp.QpState.{QpState}
use Rattle.uv_num.specs.declared.request.Act as request
use Rattle.uv_num.specs.declared.request.Ask.{Ask}
use Rattle.uv_num.specs.declared.request.Role.{Role}
use Rattle.uv_num.specs.declared.request.Role.TheVariants.{Creates, Destroys, Acts}
use Rattle.uv_num.specs.Kind.{kind_place}
use Rattle.uv_num.specs.Request.{role_of}
use Rattle.uv_machine.specs.declared.entry.Word.{Word}
use Rattle.uv_machine.specs.declared.entry.Word.TheVariants.{Reserve, Look, Make, Commit, Act, Lock, Check, Finish, Abort, Free, Exit}
use Rattle.uv_machine.specs.declared.entry.Answer.{Answer}
use Rattle.uv_machine.specs.declared.entry.CallStep.{CallStep}
use Rattle.uv_machine.specs.declared.entry.Entry.TheVariants.{Step}
use Rattle.uv_machine.specs.declared.object.Object.{Object}
use Rattle.uv_machine.specs.declared.call.InFlight.{InFlight}
use Rattle.uv_machine.specs.declared.state.State.{State}
use Rattle.uv_machine.specs.Plans.{next_word, own_object, look_ask, closing, with_refusal, with_number, with_look, with_lock, without_number, without_look}
use Rattle.uv_machine.specs.States.{call_of, published, has_users, least_free, home_cell}
use Rattle.uv_machine.specs.Acts.{act_refusal, act_answer}
use Rattle.uv_machine.specs.Steps.{told, refused_told, plain_told, look_told, cell_told, make_told, act_told, lock_refusal, lock_found, lock_told, step_answer, role_answer, next_from}
use Rattle.uv_machine.specs.Effects.{refusal_in, with_call, left, unless_refused, with_new, new_object, generation_in, make, make_at, commit, act, act_by, check, finish, stepped, after_step}
use Rattle.uv_machine.specs.Histories.{Allowed, after, kept_in}
use Rattle.uv_machine.proofs.Planned.{InPlan, IsClosing, in_plan, is_closing, stands_in_plan}

-- The step that is allowed.

-- the call that made a step, the step being the one that it makes next
pub record IsStepOf (m : State) (c : ℕ) (slot : Option InFlight) (w : Word) (o : ℕ) (found : Option QpState) (a : Answer) : Type 0 where
  pub call : InFlight
  pub is : slot ≡ Some call
  pub word : next_word call ≡ w
  pub object : (told m c call found w).object ≡ o
  pub answer : step_answer m call found (kept_in a) w (told m c call found w).refusal ≡ a

module _ (m : State) (c : ℕ) (w : Word) (o : ℕ) (found : Option QpState) (a : Answer) where
  IsStepOf-from : (slot : Option InFlight) → next_from m c found (kept_in a) slot ≡ Some (record { word = w; object = o; found = found; answer = a }) → IsStepOf m c slot w o found a
  IsStepOf-from None e = absurd (none-some _ e)
  IsStepOf-from (Some call) e =
      let same = same_Some _ _ e in
      let word : next_word call ≡ w = ap (λ (d : CallStep). d.word) same in
      record {
        call = call;
        is = refl;
        word = word;
        object = rw word at (ap (λ (d : CallStep). d.object) same);
        answer = rw word at (ap (λ (d : CallStep). d.answer) same);
      }

  pub IsStepOf-allowed : Allowed m (Step c w o found a) → IsStepOf m c (call_of m c) w o found a
  IsStepOf-allowed allowed = IsStepOf-from (call_of m c) allowed.1

-- What it was.

-- the object that a call makes in the cell of this index
abbrev pub object_made : State → InFlight → Kind → ℕ → Object
object_made m call kind index = new_object m call kind index (generation_in index (slice_get m.pools (kind_place kind)))

-- the words that may be refused
abbrev pub may_refuse : Word → Bool
may_refuse Reserve = true
may_refuse Look = true
may_refuse Make = true
may_refuse Commit = false
may_refuse Act = true
may_refuse Lock = true
may_refuse Check = true
may_refuse Finish = false
may_refuse Abort = false
may_refuse Free = false
may_refuse Exit = false

pub record Refused (m : State) (c : ℕ) (call : InFlight) (a : Answer) (m' : State) : Type 0 where
  pub word : Word
  pub errno : Errno
  pub found : Option QpState
  pub meets : (told m c call found word).refusal ≡ Some errno
  pub tells : refusal_in a ≡ Some errno
  pub plan : InPlan call word
  pub may : may_refuse word ≡ true
  pub gives : m' ≡ with_call m c (with_refusal errno)

pub record Reserved (m : State) (c : ℕ) (call : InFlight) (m' : State) : Type 0 where
  pub plan : InPlan call Reserve
  pub number : ℕ
  pub free : least_free m call.file ≡ Some number
  pub gives : m' ≡ with_call m c (with_number (Some number))

pub record Looked (m : State) (c : ℕ) (call : InFlight) (m' : State) : Type 0 where
  pub plan : InPlan call Look
  pub fine : (look_told m call.file (look_ask call)).refusal ≡ None
  pub gives : m' ≡ with_call m c (with_look (look_told m call.file (look_ask call)).object)

pub record Made (m : State) (c : ℕ) (call : InFlight) (m' : State) : Type 0 where
  pub plan : InPlan call Make
  pub kind : Kind
  pub creates : role_of call.request ≡ Creates kind
  pub index : ℕ
  pub home : home_cell m kind ≡ Some index
  pub fresh : (m.made == NONE) ≡ false
  pub gives : m' ≡ with_new m c (object_made m call kind index)

pub record Committed (m : State) (c : ℕ) (call : InFlight) (m' : State) : Type 0 where
  pub plan : InPlan call Commit
  pub gives : m' ≡ commit m c (own_object call)

pub record Acted (m : State) (c : ℕ) (call : InFlight) (a : Answer) (m' : State) : Type 0 where
  pub plan : InPlan call Act
  pub what : request.Act
  pub acts : role_of call.request ≡ Acts what
  pub found : Option QpState
  pub fine : act_refusal m call found what ≡ None
  pub answers : a ≡ act_answer m call found what
  pub gives : m' ≡ act m c call a what

pub record Locked (m : State) (c : ℕ) (call : InFlight) (m' : State) : Type 0 where
  pub plan : InPlan call Lock
  pub asked : Ask
  pub destroys : role_of call.request ≡ Destroys asked
  pub item : Object
  pub published : published m call.file asked.handle ≡ Some item
  pub fine : lock_refusal m c asked item ≡ None
  pub gives : m' ≡ with_call m c (with_lock item.id)

pub record Checked (m : State) (c : ℕ) (call : InFlight) (m' : State) : Type 0 where
  pub plan : InPlan call Check
  pub unused : has_users m (own_object call) ≡ false
  pub gives : m' ≡ check m c (own_object call)

pub record Finished (m : State) (c : ℕ) (call : InFlight) (m' : State) : Type 0 where
  pub plan : InPlan call Finish
  pub gives : m' ≡ finish m c (own_object call)

pub record Aborted (m : State) (c : ℕ) (call : InFlight) (m' : State) : Type 0 where
  pub ends : IsClosing call
  pub word : closing call ≡ Abort
  pub gives : m' ≡ with_call m c without_number

pub record Freed (m : State) (c : ℕ) (call : InFlight) (m' : State) : Type 0 where
  pub ends : IsClosing call
  pub word : closing call ≡ Free
  pub gives : m' ≡ with_call m c without_look

pub record Left (m : State) (c : ℕ) (call : InFlight) (m' : State) : Type 0 where
  pub ends : IsClosing call
  pub word : closing call ≡ Exit
  pub gives : m' ≡ left m c

-- what a step was, with the state after it
pub data Turn (m : State) (c : ℕ) (call : InFlight) (a : Answer) (m' : State) : Type 0 where
  Refuses : Refused m c call a m' → Turn m c call a m'
  Reserves : Reserved m c call m' → Turn m c call a m'
  Looks : Looked m c call m' → Turn m c call a m'
  Makes : Made m c call m' → Turn m c call a m'
  Commits : Committed m c call m' → Turn m c call a m'
  Does : Acted m c call a m' → Turn m c call a m'
  Locks : Locked m c call m' → Turn m c call a m'
  Checks : Checked m c call m' → Turn m c call a m'
  Finishes : Finished m c call m' → Turn m c call a m'
  Aborts : Aborted m c call m' → Turn m c call a m'
  Frees : Freed m c call m' → Turn m c call a m'
  Leaves : Left m c call m' → Turn m c call a m'

module _ (m : State) (c : ℕ) (call : InFlight) where
  refuses : (w : Word) (e : Errno) (found : Option QpState) (a : Answer) (fine : State) → InPlan call w → may_refuse w ≡ true → (told m c call found w).refusal ≡ Some e → refusal_in a ≡ Some e → Turn m c call a (unless_refused m c (refusal_in a) fine)
  refuses w e found a fine plan may meets told = Refuses (record { word = w; errno = e; found = found; meets = meets; tells = told; plan = plan; may = may; gives = ap (λ r. unless_refused m c r fine) told })

  -- Reserve

  number_by : (n : Option ℕ) → (if is_none n then refused_told NoSpc else plain_told).refusal ≡ None → (k : ℕ) × (n ≡ Some k)
  number_by None e = absurd cc
  number_by (Some k) e = (k, refl)

  reserves_by : (r : Option Errno) (a : Answer) → InPlan call Reserve → (told m c call None Reserve).refusal ≡ r → refusal_in a ≡ r → Turn m c call a (stepped m c call Reserve NONE a)
  reserves_by None a plan fine is =
      let free = number_by (least_free m call.file) fine in
      Reserves (record { plan = plan; number = free.0; free = free.1; gives = ap (λ r. unless_refused m c r (with_call m c (with_number (least_free m call.file)))) is ∙ ap (λ n. with_call m c (with_number n)) free.1 })
  reserves_by (Some e) a plan fine is = refuses Reserve e None a _ plan refl fine is

  -- Look

  looks_by : (r : Option Errno) (o : ℕ) (a : Answer) → InPlan call Look → (look_told m call.file (look_ask call)).refusal ≡ r → (look_told m call.file (look_ask call)).object ≡ o → refusal_in a ≡ r → Turn m c call a (stepped m c call Look o a)
  looks_by None o a plan fine object is =
      Looks (record { plan = plan; fine = fine; gives = ap (λ r. unless_refused m c r (with_call m c (with_look o))) is ∙ ap (λ i. with_call m c (with_look i)) (sym object) })
  looks_by (Some e) o a plan fine object is = refuses Look e None a _ plan refl fine is

  -- Make

  makes_in : (kind : Kind) (full : Bool) (i : Option ℕ) → (m.made == NONE) ≡ full → home_cell m kind ≡ i → (if full then refused_told NoSpc else cell_told m i).refusal ≡ None → (index : ℕ) × (home_cell m kind ≡ Some index) × ((m.made == NONE) ≡ false)
  makes_in kind true i f h e = absurd (none-some _ (sym e))
  makes_in kind false None f h e = absurd (none-some _ (sym e))
  makes_in kind false (Some index) f h e = (index, h, f)

  makes_as : (role : Role) (a : Answer) → role_of call.request ≡ role → InPlan call Make → (make_told m role).refusal ≡ None → refusal_in a ≡ None → (kind : Kind) → role ≡ Creates kind → Turn m c call a (unless_refused m c (refusal_in a) (make m c call role))
  makes_as (Creates k) a role plan fine is kind same =
      let found = makes_in k (m.made == NONE) (home_cell m k) refl refl fine in
      Makes (record {
        plan = plan;
        kind = k;
        creates = role;
        index = found.0;
        home = found.1;
        fresh = found.2;
        gives = ap (λ r. unless_refused m c r (make m c call (Creates k))) is ∙ ap (make_at m c call k) found.1;
      })
  makes_as (Destroys asked) a role plan fine is kind same = absurd cc
  makes_as (Acts what) a role plan fine is kind same = absurd cc

  makes_by : (r : Option Errno) (o : ℕ) (a : Answer) → InPlan call Make → (make_told m (role_of call.request)).refusal ≡ r → refusal_in a ≡ r → Turn m c call a (stepped m c call Make o a)
  makes_by None o a plan fine is = let s = stands_in_plan call Make plan in makes_as (role_of call.request) a refl plan fine is s.kind s.creates
  makes_by (Some e) o a plan fine is = refuses Make e None a _ plan refl fine is

  -- Act

  acts_as : (role : Role) (found : Option QpState) (a : Answer) → role_of call.request ≡ role → InPlan call Act → (act_told m call found role).refusal ≡ None → role_answer m call found role ≡ a → refusal_in a ≡ None → (what : request.Act) → role ≡ Acts what → Turn m c call a (unless_refused m c (refusal_in a) (act_by m c call a role))
  acts_as (Creates kind) found a role plan fine answers is what same = absurd cc
  acts_as (Destroys asked) found a role plan fine answers is what same = absurd cc
  acts_as (Acts does) found a role plan fine answers is what same =
      Does (record {
        plan = plan;
        what = does;
        acts = role;
        found = found;
        fine = fine;
        answers = sym answers;
        gives = ap (λ r. unless_refused m c r (act m c call a does)) is;
      })

  acts_by : (r : Option Errno) (o : ℕ) (found : Option QpState) (a : Answer) → InPlan call Act → (act_told m call found (role_of call.request)).refusal ≡ r → step_answer m call found (kept_in a) Act r ≡ a → refusal_in a ≡ r → Turn m c call a (stepped m c call Act o a)
  acts_by None o found a plan fine answers is = let s = stands_in_plan call Act plan in acts_as (role_of call.request) found a refl plan fine answers is s.act s.acts
  acts_by (Some e) o found a plan fine answers is = refuses Act e found a _ plan refl fine is

  -- Lock

  locks_found : (asked : Ask) (x : Option Object) (o : ℕ) (a : Answer) → role_of call.request ≡ Destroys asked → InPlan call Lock → published m call.file asked.handle ≡ x → (lock_found m c asked x).refusal ≡ None → (lock_found m c asked x).object ≡ o → refusal_in a ≡ None → Turn m c call a (stepped m c call Lock o a)
  locks_found asked None o a role plan published fine object is = absurd (none-some _ (sym fine))
  locks_found asked (Some x) o a role plan published fine object is =
      Locks (record {
        plan = plan;
        asked = asked;
        destroys = role;
        item = x;
        published = published;
        fine = fine;
        gives = ap (λ r. unless_refused m c r (with_call m c (with_lock o))) is ∙ ap (λ i. with_call m c (with_lock i)) (sym object);
      })

  locks_as : (role : Role) (o : ℕ) (a : Answer) → role_of call.request ≡ role → InPlan call Lock → (lock_told m c call.file role).refusal ≡ None → (lock_told m c call.file role).object ≡ o → refusal_in a ≡ None → (asked : Ask) → role ≡ Destroys asked → Turn m c call a (stepped m c call Lock o a)
  locks_as (Creates kind) o a role plan fine object is asked same = absurd cc
  locks_as (Destroys ask) o a role plan fine object is asked same = locks_found ask (published m call.file ask.handle) o a role plan refl fine object is
  locks_as (Acts what) o a role plan fine object is asked same = absurd cc

  locks_by : (r : Option Errno) (o : ℕ) (a : Answer) → InPlan call Lock → (lock_told m c call.file (role_of call.request)).refusal ≡ r → (lock_told m c call.file (role_of call.request)).object ≡ o → refusal_in a ≡ r → Turn m c call a (stepped m c call Lock o a)
  locks_by None o a plan fine object is = let s = stands_in_plan call Lock plan in locks_as (role_of call.request) o a refl plan fine object is s.asked s.destroys
  locks_by (Some e) o a plan fine object is = refuses Lock e None a _ plan refl fine is

  -- Check

  users_by : (used : Bool) → (if used then Some Busy else None) ≡ None → used ≡ false
  users_by true e = absurd (none-some _ (sym e))
  users_by false e = refl

  checks_by : (r : Option Errno) (o : ℕ) (a : Answer) → InPlan call Check → (if has_users m (own_object call) then Some Busy else None) ≡ r → own_object call ≡ o → refusal_in a ≡ r → Turn m c call a (stepped m c call Check o a)
  checks_by None o a plan fine object is =
      Checks (record { plan = plan; unused = users_by (has_users m (own_object call)) fine; gives = ap (λ r. unless_refused m c r (check m c o)) is ∙ ap (check m c) (sym object) })
  checks_by (Some e) o a plan fine object is = refuses Check e None a _ plan refl fine is

  act_fine : (found : Option QpState) (what : request.Act) → refusal_in (act_answer m call found what) ≡ None
  act_fine found (request.TheVariants.Modify to attrs) = refl
  act_fine found request.TheVariants.Query = refl
  act_fine found (request.TheVariants.Bind offset length access) = refl
  act_fine found (request.TheVariants.Unbind offset length access) = refl
  act_fine found request.TheVariants.Async = refl

  role_fine : (found : Option QpState) (role : Role) → refusal_in (role_answer m call found role) ≡ None
  role_fine found (Creates kind) = refl
  role_fine found (Destroys asked) = refl
  role_fine found (Acts what) = act_fine found what

  -- the answer of a step that may be refused has just the refusal that the step was told
  plain_refusal : (found : Option QpState) (kept : ℕ) (w : Word) (r : Option Errno) → may_refuse w ≡ true → refusal_in (step_answer m call found kept w r) ≡ r
  plain_refusal found kept w (Some e) may = refl
  plain_refusal found kept Reserve None may = refl
  plain_refusal found kept Look None may = refl
  plain_refusal found kept Make None may = refl
  plain_refusal found kept Commit None may = absurd cc
  plain_refusal found kept Act None may = role_fine found (role_of call.request)
  plain_refusal found kept Lock None may = refl
  plain_refusal found kept Check None may = refl
  plain_refusal found kept Finish None may = absurd cc
  plain_refusal found kept Abort None may = absurd cc
  plain_refusal found kept Free None may = absurd cc
  plain_refusal found kept Exit None may = absurd cc

  turn_by : (w : Word) (o : ℕ) (found : Option QpState) (a : Answer) → next_word call ≡ w → (told m c call found w).object ≡ o → step_answer m call found (kept_in a) w (told m c call found w).refusal ≡ a → Turn m c call a (stepped m c call w o a)
  turn_by Reserve o found a word object answers = reserves_by (told m c call None Reserve).refusal a (in_plan call Reserve word refl) refl (ap refusal_in (sym answers) ∙ plain_refusal found (kept_in a) Reserve _ refl)
  turn_by Look o found a word object answers = looks_by _ o a (in_plan call Look word refl) refl object (ap refusal_in (sym answers) ∙ plain_refusal found (kept_in a) Look _ refl)
  turn_by Make o found a word object answers = makes_by _ o a (in_plan call Make word refl) refl (ap refusal_in (sym answers) ∙ plain_refusal found (kept_in a) Make _ refl)
  turn_by Commit o found a word object answers =
      Commits (record { plan = in_plan call Commit word refl; gives = ap (λ b. unless_refused m c (refusal_in b) (commit m c o)) (sym answers) ∙ ap (commit m c) (sym object) })
  turn_by Act o found a word object answers = acts_by _ o found a (in_plan call Act word refl) refl answers (ap refusal_in (sym answers) ∙ plain_refusal found (kept_in a) Act _ refl)
  turn_by Lock o found a word object answers = locks_by _ o a (in_plan call Lock word refl) refl object (ap refusal_in (sym answers) ∙ plain_refusal found (kept_in a) Lock _ refl)
  turn_by Check o found a word object answers = checks_by _ o a (in_plan call Check word refl) refl object (ap refusal_in (sym answers) ∙ plain_refusal found (kept_in a) Check _ refl)
  turn_by Finish o found a word object answers =
      Finishes (record { plan = in_plan call Finish word refl; gives = ap (λ b. unless_refused m c (refusal_in b) (finish m c o)) (sym answers) ∙ ap (finish m c) (sym object) })
  turn_by Abort o found a word object answers =
      let ends = is_closing call Abort word refl in
      Aborts (record { ends = ends.0; word = ends.1; gives = ap (λ b. unless_refused m c (refusal_in b) (with_call m c without_number)) (sym answers) })
  turn_by Free o found a word object answers =
      let ends = is_closing call Free word refl in
      Frees (record { ends = ends.0; word = ends.1; gives = ap (λ b. unless_refused m c (refusal_in b) (with_call m c without_look)) (sym answers) })
  turn_by Exit o found a word object answers = let ends = is_closing call Exit word refl in Leaves (record { ends = ends.0; word = ends.1; gives = refl })

-- an allowed step is a turn of the actor's call
pub record IsTurn (m : State) (c : ℕ) (w : Word) (o : ℕ) (found : Option QpState) (a : Answer) (m' : State) : Type 0 where
  pub call : InFlight
  pub is : call_of m c ≡ Some call
  pub word : next_word call ≡ w
  pub object : (told m c call found w).object ≡ o
  pub answer : step_answer m call found (kept_in a) w (told m c call found w).refusal ≡ a
  pub turn : Turn m c call a m'

pub IsTurn-allowed : (m : State) (c : ℕ) (w : Word) (o : ℕ) (found : Option QpState) (a : Answer) → Allowed m (Step c w o found a) → IsTurn m c w o found a (after m (Step c w o found a))
IsTurn-allowed m c w o found a allowed =
    let s = IsStepOf-allowed m c w o found a allowed in
    let turn = turn_by m c s.call w o found a s.word s.object s.answer in
    record {
      call = s.call;
      is = s.is;
      word = s.word;
      object = s.object;
      answer = s.answer;
      turn = subst (λ slot. Turn m c s.call a (after_step m c slot w o a)) (sym s.is) turn;
    }
