-- What the attributes of a call say: the request that they make, each number at its attribute.
use Rattle.std.specs.Prelude.{ℕ, Bool, ◌==◌, List, Option, find, unwrap_or}
use Rattle.std.specs.Option.{option_map}
use Rattle.uv_num.specs.declared.attrs.QpAttrs.{QpAttrs}
use Rattle.uv_num.specs.declared.request.Request.{Request}
use Rattle.uv_num.specs.declared.request.Request.TheVariants.{AllocPd, DeallocPd, CreateChannel, DestroyChannel, CreateCq, DestroyCq, CreateQp, DestroyQp, ModifyQp, QueryQp, CreateSrq, DestroySrq, CreateAh, DestroyAh, RegMr, DeregMr, AllocMw, DeallocMw, BindMw, GetAsync}
use Rattle.uv_attr.specs.declared.call.Attr.{Attr}
use Rattle.uv_schema.specs.declared.ids.TheConstants.{AH_DEVICE, BIND_ACCESS, BIND_LENGTH, BIND_MR, BIND_OFFSET, CQ_CHANNEL, CQ_DEPTH, DOMAIN, MODIFY_ACCESS, MODIFY_DEV, MODIFY_DQPN, MODIFY_MDRA, MODIFY_MRA, MODIFY_MTU, MODIFY_PKEY, MODIFY_PORT, MODIFY_QKEY, MODIFY_RETRY, MODIFY_RNR, MODIFY_RNRTIMER, MODIFY_RQPSN, MODIFY_SQPSN, MODIFY_TIMEOUT, MODIFY_TO, MR_ACCESS, MR_LENGTH, QP_RECV_CQ, QP_RECV_DEPTH, QP_SEND_CQ, QP_SEND_DEPTH, QP_SERVICE, QP_SRQ, SRQ_DEPTH, TARGET}
use Rattle.uv_schema.specs.declared.method.Method.{Method}
use Rattle.uv_schema.specs.declared.method.Method.TheVariants as method

abbrev pub has_attr_id : ℕ → Attr → Bool
has_attr_id id a = a.id == id

-- the attribute of a number, if it is given
abbrev pub attr_in : List Attr → ℕ → Option Attr
attr_in attrs id = find (has_attr_id id) attrs

abbrev pub value_of : Attr → ℕ
value_of a = a.value

-- the value of an attribute, if it is given
abbrev pub given_in : List Attr → ℕ → Option ℕ
given_in attrs id = option_map value_of (attr_in attrs id)

-- the value of an attribute, and 0 where it isn't given
abbrev pub value_in : List Attr → ℕ → ℕ
value_in attrs id = unwrap_or (given_in attrs id) 0

-- the attributes of a modify
abbrev pub modified_in : List Attr → QpAttrs
modified_in attrs = record {
  access = given_in attrs MODIFY_ACCESS;
  pkey = given_in attrs MODIFY_PKEY;
  port = given_in attrs MODIFY_PORT;
  qkey = given_in attrs MODIFY_QKEY;
  dev = given_in attrs MODIFY_DEV;
  mtu = given_in attrs MODIFY_MTU;
  timeout = given_in attrs MODIFY_TIMEOUT;
  retry = given_in attrs MODIFY_RETRY;
  rnr = given_in attrs MODIFY_RNR;
  rqpsn = given_in attrs MODIFY_RQPSN;
  mra = given_in attrs MODIFY_MRA;
  rnrtimer = given_in attrs MODIFY_RNRTIMER;
  sqpsn = given_in attrs MODIFY_SQPSN;
  mdra = given_in attrs MODIFY_MDRA;
  dqpn = given_in attrs MODIFY_DQPN;
}

-- the request of a method with these attributes
abbrev pub request_in : Method → List Attr → Request
request_in method.AllocPd attrs = AllocPd
request_in method.DeallocPd attrs = DeallocPd (value_in attrs TARGET)
request_in method.CreateChannel attrs = CreateChannel
request_in method.DestroyChannel attrs = DestroyChannel (value_in attrs TARGET)
request_in method.CreateCq attrs = CreateCq (value_in attrs CQ_DEPTH) (given_in attrs CQ_CHANNEL)
request_in method.DestroyCq attrs = DestroyCq (value_in attrs TARGET)
request_in method.CreateQp attrs =
    CreateQp (value_in attrs DOMAIN) (value_in attrs QP_SEND_CQ) (value_in attrs QP_RECV_CQ) (given_in attrs QP_SRQ) (value_in attrs QP_SERVICE) (value_in attrs QP_SEND_DEPTH) (value_in attrs QP_RECV_DEPTH)
request_in method.DestroyQp attrs = DestroyQp (value_in attrs TARGET)
request_in method.ModifyQp attrs = ModifyQp (value_in attrs TARGET) (value_in attrs MODIFY_TO) (modified_in attrs)
request_in method.QueryQp attrs = QueryQp (value_in attrs TARGET)
request_in method.CreateSrq attrs = CreateSrq (value_in attrs DOMAIN) (value_in attrs SRQ_DEPTH)
request_in method.DestroySrq attrs = DestroySrq (value_in attrs TARGET)
request_in method.CreateAh attrs = CreateAh (value_in attrs DOMAIN) (value_in attrs AH_DEVICE)
request_in method.DestroyAh attrs = DestroyAh (value_in attrs TARGET)
request_in method.RegMr attrs = RegMr (value_in attrs DOMAIN) (value_in attrs MR_LENGTH) (value_in attrs MR_ACCESS)
request_in method.DeregMr attrs = DeregMr (value_in attrs TARGET)
request_in method.AllocMw attrs = AllocMw (value_in attrs DOMAIN)
request_in method.DeallocMw attrs = DeallocMw (value_in attrs TARGET)
request_in method.BindMw attrs = BindMw (value_in attrs TARGET) (given_in attrs BIND_MR) (value_in attrs BIND_OFFSET) (value_in attrs BIND_LENGTH) (value_in attrs BIND_ACCESS)
request_in method.GetAsync attrs = GetAsync
