-- The attributes of a modify: their places, and what one has for each of them.
use Rattle.std.specs.Prelude.{ℕ, Bool, Option, Some, None, is_some}
use Rattle.uv_num.specs.declared.attrs.QpAttr.{QpAttr}
use Rattle.uv_num.specs.declared.attrs.QpAttr.TheVariants.{Access, Pkey, Port, Qkey, Dev, Mtu, Timeout, Retry, Rnr, Rqpsn, Mra, RnrTimer, Sqpsn, Mdra, Dqpn}
use Rattle.uv_num.specs.declared.attrs.QpAttrs.{QpAttrs}

-- the place of an attribute in the list of them all
abbrev pub attr_place : QpAttr → ℕ
attr_place Access = 0
attr_place Pkey = 1
attr_place Port = 2
attr_place Qkey = 3
attr_place Dev = 4
attr_place Mtu = 5
attr_place Timeout = 6
attr_place Retry = 7
attr_place Rnr = 8
attr_place Rqpsn = 9
attr_place Mra = 10
attr_place RnrTimer = 11
attr_place Sqpsn = 12
attr_place Mdra = 13
attr_place Dqpn = 14

-- no attribute is given
abbrev pub no_attrs : QpAttrs
no_attrs = record {
  access = None;
  pkey = None;
  port = None;
  qkey = None;
  dev = None;
  mtu = None;
  timeout = None;
  retry = None;
  rnr = None;
  rqpsn = None;
  mra = None;
  rnrtimer = None;
  sqpsn = None;
  mdra = None;
  dqpn = None;
}

-- the value of an attribute, where it is given
abbrev pub attr_value : QpAttrs → QpAttr → Option ℕ
attr_value attrs Access = attrs.access
attr_value attrs Pkey = attrs.pkey
attr_value attrs Port = attrs.port
attr_value attrs Qkey = attrs.qkey
attr_value attrs Dev = attrs.dev
attr_value attrs Mtu = attrs.mtu
attr_value attrs Timeout = attrs.timeout
attr_value attrs Retry = attrs.retry
attr_value attrs Rnr = attrs.rnr
attr_value attrs Rqpsn = attrs.rqpsn
attr_value attrs Mra = attrs.mra
attr_value attrs RnrTimer = attrs.rnrtimer
attr_value attrs Sqpsn = attrs.sqpsn
attr_value attrs Mdra = attrs.mdra
attr_value attrs Dqpn = attrs.dqpn

-- whether an attribute is given
abbrev pub is_given : QpAttrs → QpAttr → Bool
is_given attrs name = is_some (attr_value attrs name)

-- the attributes with this one given too, or with another value
abbrev pub with_attr : QpAttrs → QpAttr → ℕ → QpAttrs
with_attr attrs Access value = record attrs { access = Some value }
with_attr attrs Pkey value = record attrs { pkey = Some value }
with_attr attrs Port value = record attrs { port = Some value }
with_attr attrs Qkey value = record attrs { qkey = Some value }
with_attr attrs Dev value = record attrs { dev = Some value }
with_attr attrs Mtu value = record attrs { mtu = Some value }
with_attr attrs Timeout value = record attrs { timeout = Some value }
with_attr attrs Retry value = record attrs { retry = Some value }
with_attr attrs Rnr value = record attrs { rnr = Some value }
with_attr attrs Rqpsn value = record attrs { rqpsn = Some value }
with_attr attrs Mra value = record attrs { mra = Some value }
with_attr attrs RnrTimer value = record attrs { rnrtimer = Some value }
with_attr attrs Sqpsn value = record attrs { sqpsn = Some value }
with_attr attrs Mdra value = record attrs { mdra = Some value }
with_attr attrs Dqpn value = record attrs { dqpn = Some value }
