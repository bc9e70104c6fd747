-- What `==` tells of two requests, and of the attributes of two modifies: they are the same in every field.
use Rattle.std.proofs.Common.{◌≡◌, ◌&&◌, ◌↔◌, ◌∙◌, ℕ, Bool, Option, true, false, IsTrue, nat_eq, refl, sym, subst, rules}
use Rattle.std.specs.Option.{option_eq}
use Rattle.uv_num.specs.contracts.attrs.QpAttrsEq.TheImpl.Laws as attrs_laws
use Rattle.uv_num.specs.contracts.attrs.QpAttrsPartialEq.TheImpl as of_attrs
use Rattle.uv_num.specs.contracts.request.RequestEq.TheImpl.Laws as request_laws
use Rattle.uv_num.specs.contracts.request.RequestPartialEq.TheImpl as of_request
use Rattle.uv_num.specs.declared.attrs.QpAttrs.{QpAttrs}
use Rattle.uv_num.specs.declared.request.Request.{Request}
use Rattle.uv_num.specs.declared.request.Request.TheVariants.{AllocPd, DeallocPd, CreateChannel, DestroyChannel, CreateCq, DestroyCq, CreateQp, DestroyQp, ModifyQp, QueryQp, CreateSrq, DestroySrq, CreateAh, DestroyAh, RegMr, DeregMr, AllocMw, DeallocMw, BindMw, GetAsync}

both : (p q : Bool) → p && q ≡ true → (p ≡ true) × (q ≡ true)
both true true h = (refl, refl)
both true false h = cc
both false q h = cc

same_option : (a b : Option ℕ) → option_eq nat_eq a b ≡ true → a ≡ b
same_option a b h = search rules

-- the first of several tests of options, and the others
first : (a b : Option ℕ) (others : Bool) → option_eq nat_eq a b && others ≡ true → (a ≡ b) × (others ≡ true)
first a b others h = let (one, rest) = both _ _ h in (same_option a b one, rest)

attrs_same : (a b : QpAttrs) → of_attrs.ghosts.eq a b ≡ true → a ≡ b
attrs_same a b h =
    let (e0, h0) = first a.access b.access _ h in
    let (e1, h1) = first a.pkey b.pkey _ h0 in
    let (e2, h2) = first a.port b.port _ h1 in
    let (e3, h3) = first a.qkey b.qkey _ h2 in
    let (e4, h4) = first a.dev b.dev _ h3 in
    let (e5, h5) = first a.mtu b.mtu _ h4 in
    let (e6, h6) = first a.timeout b.timeout _ h5 in
    let (e7, h7) = first a.retry b.retry _ h6 in
    let (e8, h8) = first a.rnr b.rnr _ h7 in
    let (e9, h9) = first a.rqpsn b.rqpsn _ h8 in
    let (e10, h10) = first a.mra b.mra _ h9 in
    let (e11, h11) = first a.rnrtimer b.rnrtimer _ h10 in
    let (e12, h12) = first a.sqpsn b.sqpsn _ h11 in
    let (e13, h13) = first a.mdra b.mdra _ h12 in
    let e14 = same_option a.dqpn b.dqpn h13 in
    λ i. record {
      access = e0 i;
      pkey = e1 i;
      port = e2 i;
      qkey = e3 i;
      dev = e4 i;
      mtu = e5 i;
      timeout = e6 i;
      retry = e7 i;
      rnr = e8 i;
      rqpsn = e9 i;
      mra = e10 i;
      rnrtimer = e11 i;
      sqpsn = e12 i;
      mdra = e13 i;
      dqpn = e14 i;
    }

-- a test that is `==` of two modifies' attributes decides that they are the same
pub attrs_decides : (a b : QpAttrs) (test : Bool) → test ≡ of_attrs.ghosts.eq a b → IsTrue test ↔ (a ≡ b)
attrs_decides a b test is =
    let P : QpAttrs → Type 0 = λ x. of_attrs.ghosts.eq a x ≡ true in
    (λ h. attrs_same a b (sym is ∙ h), λ e. is ∙ subst P e (attrs_laws.laws-law.refl a))

request_same : (a b : Request) → of_request.ghosts.eq a b ≡ true → a ≡ b
request_same AllocPd AllocPd h = refl
request_same (DeallocPd _) (DeallocPd _) h = search rules
request_same CreateChannel CreateChannel h = refl
request_same (DestroyChannel _) (DestroyChannel _) h = search rules
request_same (CreateCq _ _) (CreateCq _ _) h = search rules
request_same (DestroyCq _) (DestroyCq _) h = search rules
request_same (CreateQp _ _ _ _ _ _ _) (CreateQp _ _ _ _ _ _ _) h = search rules
request_same (DestroyQp _) (DestroyQp _) h = search rules
request_same (ModifyQp _ _ a) (ModifyQp _ _ b) h = search (rules, attrs_same a b)
request_same (QueryQp _) (QueryQp _) h = search rules
request_same (CreateSrq _ _) (CreateSrq _ _) h = search rules
request_same (DestroySrq _) (DestroySrq _) h = search rules
request_same (CreateAh _ _) (CreateAh _ _) h = search rules
request_same (DestroyAh _) (DestroyAh _) h = search rules
request_same (RegMr _ _ _) (RegMr _ _ _) h = search rules
request_same (DeregMr _) (DeregMr _) h = search rules
request_same (AllocMw _) (AllocMw _) h = search rules
request_same (DeallocMw _) (DeallocMw _) h = search rules
request_same (BindMw _ _ _ _ _) (BindMw _ _ _ _ _) h = search rules
request_same GetAsync GetAsync h = refl
request_same _ _ h = cc

-- a test that is `==` of two requests decides that they are the same
pub request_decides : (a b : Request) (test : Bool) → test ≡ of_request.ghosts.eq a b → IsTrue test ↔ (a ≡ b)
request_decides a b test is =
    let P : Request → Type 0 = λ x. of_request.ghosts.eq a x ≡ true in
    (λ h. request_same a b (sym is ∙ h), λ e. is ∙ subst P e (request_laws.laws-law.refl a))
