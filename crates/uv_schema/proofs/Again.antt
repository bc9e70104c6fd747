-- The call that a request makes is read as that request.
use Rattle.std.proofs.Common.{◌≡◌, ℕ, zero, suc, ◌+◌, ◌<◌, Bool, true, false, cond, List, [], ◌∷◌, Option, Some, None, refl, ap, ◌∙◌, arith}
use Rattle.std.proofs.lemmas.Bool.{le-ltb, ne_eqb, eq-eqb, and_parts}
use Rattle.std.specs.Prelude.{Ok, Err, ◌^◌, ◌==◌, ◌&&◌, ◌||◌, nat_lt, if◌then◌else◌}
use Rattle.std.specs.List.{AllByRecursion, list_any}
use Rattle.std.specs.Option.{option_map, option_or}
use Rattle.uv_num.specs.declared.attrs.QpAttrs.{QpAttrs}
use Rattle.uv_num.specs.declared.errno.Errno.{Errno}
use Rattle.uv_num.specs.declared.errno.Errno.TheVariants.{Inval, ProtoNoSupport}
use Rattle.uv_num.specs.declared.request.Request.{Request}
use Rattle.uv_num.specs.declared.request.Request.TheVariants.{AllocPd, DeallocPd, CreateChannel, DestroyChannel, CreateCq, DestroyCq, CreateQp, DestroyQp, ModifyQp, QueryQp, CreateSrq, DestroySrq, CreateAh, DestroyAh, RegMr, DeregMr, AllocMw, DeallocMw, BindMw, GetAsync}
use Rattle.uv_num.specs.Ranges.{is_in_range}
use Rattle.uv_attr.specs.declared.call.Attr.{Attr}
use Rattle.uv_schema.specs.declared.method.Wanted.{Wanted}
use Rattle.uv_schema.specs.declared.method.Method.TheVariants as method
use Rattle.uv_schema.specs.Methods.{wanted_of}
use Rattle.uv_schema.specs.Values.{value_of, attr_in, given_in, modified_in}
use Rattle.uv_schema.specs.Refusals.{has_wanted, attrs_refusal}
use Rattle.uv_schema.specs.Reading.{unless}
use Rattle.uv_schema.specs.Calls.{HandlesFit, ReadsBack, accepted, attr_for, attrs_for, handles_of, modified_by}

abbrev is_wide_handle : ℕ → Bool
is_wide_handle handle = nat_lt 4294967295 handle

-- handles of 32 bits are not wide
narrow : (handles : List ℕ) → AllByRecursion (λ handle. handle < 2 ^ 32) handles → list_any is_wide_handle handles ≡ false
narrow [] fit = refl
narrow (handle ∷ handles) fit =
    ap (λ v. v || list_any is_wide_handle handles) (le-ltb 4294967295 handle (omega (arith, fit.0))) ∙ narrow handles fit.1

-- what is left to be said of a request whose attributes are all there
abbrev answered : Request → Bool → Option Errno
answered request wide = if wide then Some Inval else (if is_in_range request then None else Some Inval)

unless-in_range : (b : Bool) (request : Request) → unless (if b then None else Some Inval) request ≡ cond b (Ok request) (Err Inval)
unless-in_range true request = refl
unless-in_range false request = refl

read_as : (request : Request) → HandlesFit request → unless (answered request (list_any is_wide_handle (handles_of request))) request ≡ accepted request
read_as request fit =
    ap (λ wide. unless (answered request wide) request) (narrow (handles_of request) fit) ∙ unless-in_range (is_in_range request) request

-- ---- the attributes of a modify, of which each may be given or not

-- a number in front of all isn't given
given-before : (id n : ℕ) (values : List (Option ℕ)) → id < n → given_in (attrs_for n values) id ≡ None
given-before id n [] lt = refl
given-before id n (None ∷ values) lt = given-before id (n + 1) values (omega arith)
given-before id n (Some value ∷ values) lt =
    let ne : (n == id) ≡ false = ne_eqb n id (omega arith) in
    rw ne (given-before id (n + 1) values (omega arith))

-- the value at a place
abbrev value_at : ℕ → List (Option ℕ) → Option ℕ
value_at k [] = None
value_at zero (value ∷ values) = value
value_at (suc k) (value ∷ values) = value_at k values

given-at : (k n : ℕ) (values : List (Option ℕ)) → given_in (attrs_for n values) (n + k) ≡ value_at k values
given-at k n [] = refl
given-at zero n (None ∷ values) = given-before (n + 0) (n + 1) values (omega arith)
given-at zero n (Some value ∷ values) =
    let same : (n == n + 0) ≡ true = eq-eqb n (n + 0) (omega arith) in
    rw same refl
given-at (suc k) n (None ∷ values) =
    let next : n + suc k ≡ (n + 1) + k = omega arith in
    rw next (given-at k (n + 1) values)
given-at (suc k) n (Some value ∷ values) =
    let other : (n == n + suc k) ≡ false = ne_eqb n (n + suc k) (omega arith) in
    let next : n + suc k ≡ (n + 1) + k = omega arith in
    let rest : List Attr = attrs_for (n + 1) values in
    ap (λ b. option_map value_of (cond b (Some (attr_for n value)) (attr_in rest (n + suc k)))) other ∙ ap (given_in rest) next ∙ given-at k (n + 1) values

-- whether each of these numbers is an attribute of the method
abbrev all_wanted : List Wanted → ℕ → List (Option ℕ) → Bool
all_wanted wanted n [] = true
all_wanted wanted n (value ∷ values) = has_wanted wanted n && all_wanted wanted (n + 1) values

-- then none is refused
none_refused : (wanted : List Wanted) (n : ℕ) (values : List (Option ℕ)) → all_wanted wanted n values ≡ true → attrs_refusal wanted (attrs_for n values) ≡ None
none_refused wanted n [] all = refl
none_refused wanted n (None ∷ values) all =
    none_refused wanted (n + 1) values (and_parts (has_wanted wanted n) (all_wanted wanted (n + 1) values) all).1
none_refused wanted n (Some value ∷ values) all =
    let parts = and_parts (has_wanted wanted n) (all_wanted wanted (n + 1) values) all in
    ap (λ b. option_or (if b then None else Some ProtoNoSupport) (attrs_refusal wanted (attrs_for (n + 1) values))) parts.0
    ∙ none_refused wanted (n + 1) values parts.1

module _ (qp to : ℕ) (attrs : QpAttrs) where
  modified-again : modified_in (attr_for 1 qp ∷ attr_for 2 to ∷ attrs_for 3 (modified_by attrs)) ≡ attrs
  modified-again =
      λ i. record {
        access = given-at 0 3 (modified_by attrs) i;
        pkey = given-at 1 3 (modified_by attrs) i;
        port = given-at 2 3 (modified_by attrs) i;
        qkey = given-at 3 3 (modified_by attrs) i;
        dev = given-at 4 3 (modified_by attrs) i;
        mtu = given-at 5 3 (modified_by attrs) i;
        timeout = given-at 6 3 (modified_by attrs) i;
        retry = given-at 7 3 (modified_by attrs) i;
        rnr = given-at 8 3 (modified_by attrs) i;
        rqpsn = given-at 9 3 (modified_by attrs) i;
        mra = given-at 10 3 (modified_by attrs) i;
        rnrtimer = given-at 11 3 (modified_by attrs) i;
        sqpsn = given-at 12 3 (modified_by attrs) i;
        mdra = given-at 13 3 (modified_by attrs) i;
        dqpn = given-at 14 3 (modified_by attrs) i;
      }

  not_refused : attrs_refusal (wanted_of method.ModifyQp) (attrs_for 3 (modified_by attrs)) ≡ None
  not_refused = none_refused (wanted_of method.ModifyQp) 3 (modified_by attrs) refl

  modify_reads_back : HandlesFit (ModifyQp qp to attrs) → ReadsBack (ModifyQp qp to attrs)
  modify_reads_back fit =
      (λ i. unless
      (option_or (not_refused i) (answered (ModifyQp qp to (modified-again i)) (list_any is_wide_handle (qp ∷ []))))
      (ModifyQp qp to (modified-again i)))
      ∙ read_as (ModifyQp qp to attrs) fit

pub reads_back : (request : Request) → HandlesFit request → ReadsBack request
reads_back AllocPd fit = refl
reads_back (DeallocPd pd) fit = read_as (DeallocPd pd) fit
reads_back CreateChannel fit = refl
reads_back (DestroyChannel channel) fit = read_as (DestroyChannel channel) fit
reads_back (CreateCq depth None) fit = read_as (CreateCq depth None) fit
reads_back (CreateCq depth (Some channel)) fit = read_as (CreateCq depth (Some channel)) fit
reads_back (DestroyCq cq) fit = read_as (DestroyCq cq) fit
reads_back (CreateQp pd send_cq recv_cq None service send_depth recv_depth) fit = read_as (CreateQp pd send_cq recv_cq None service send_depth recv_depth) fit
reads_back (CreateQp pd send_cq recv_cq (Some srq) service send_depth recv_depth) fit = read_as (CreateQp pd send_cq recv_cq (Some srq) service send_depth recv_depth) fit
reads_back (DestroyQp qp) fit = read_as (DestroyQp qp) fit
reads_back (ModifyQp qp to attrs) fit = modify_reads_back qp to attrs fit
reads_back (QueryQp qp) fit = read_as (QueryQp qp) fit
reads_back (CreateSrq pd depth) fit = read_as (CreateSrq pd depth) fit
reads_back (DestroySrq srq) fit = read_as (DestroySrq srq) fit
reads_back (CreateAh pd device) fit = read_as (CreateAh pd device) fit
reads_back (DestroyAh ah) fit = read_as (DestroyAh ah) fit
reads_back (RegMr pd length access) fit = read_as (RegMr pd length access) fit
reads_back (DeregMr mr) fit = read_as (DeregMr mr) fit
reads_back (AllocMw pd) fit = read_as (AllocMw pd) fit
reads_back (DeallocMw mw) fit = read_as (DeallocMw mw) fit
reads_back (BindMw mw None offset length access) fit = read_as (BindMw mw None offset length access) fit
reads_back (BindMw mw (Some mr) offset length access) fit = read_as (BindMw mw (Some mr) offset length access) fit
reads_back GetAsync fit = refl
