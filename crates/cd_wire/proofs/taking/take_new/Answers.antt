use Rattle.std.proofs.Common.{ℕ, ◌+◌, ◌≤◌, List, [], length, subst, refl, arith}
use Rattle.cd_wire.specs.declared.bodies.BodyRead.{BodyRead}
use Rattle.cd_wire.specs.declared.bodies.BodyRead.TheVariants as read
use Rattle.cd_wire.specs.declared.taking.Front.{Front}
use Rattle.cd_wire.specs.declared.taking.Known.TheVariants as known
use Rattle.cd_wire.specs.Framing.{request_of}
use Rattle.cd_wire.specs.Reading.{IsBodyRead}
use Rattle.cd_wire.proofs.TakingLemmas.{new_front, new_whole, taken_going, taken_refused}
use Rattle.cd_wire.proofs.taking.take_new.Goals as goal

-- whether the head closes the connection is known
pub take_whole-requires : goal.take_whole-requires
take_whole-requires c = c.requires.begun.4

pub keep_front-requires : goal.keep_front-requires
keep_front-requires c = c.requires.begun.4

-- what was read is no more than what came
pub overflow_add-start : goal.overflow_add-start
overflow_add-start c =
    let after = c.read_body.new.body in
    let read = read.Whole c.in-Ok-Whole.found c.in-Ok-Whole.len in
    let here = subst (λ (t : List ℕ). IsBodyRead c.args.body t after read) c.rest_from.ensures
    (subst (λ (r : BodyRead). IsBodyRead c.args.body c.rest_from.result.now after r) c.in-Ok-Whole.field-0-is c.in-Ok-Whole.ensures.ok) in
    let begun = c.requires.begun in
    let whole = new_whole c.args.bytes.now c.args.start c.in-Ok-Whole.len c.args.head c.args.body after c.in-Ok-Whole.found
    begun.0 begun.1 begun.2 begun.3 here in
    let within : c.args.start + c.in-Ok-Whole.len ≤ length c.args.bytes.now = whole.0 in
    record { fits = omega arith }

pub overflow_add-start-in-Ok-Going : goal.overflow_add-start-in-Ok-Going
overflow_add-start-in-Ok-Going c =
    let after = c.read_body.new.body in
    let read = read.Going c.in-Ok-Going.len in
    let here = subst (λ (t : List ℕ). IsBodyRead c.args.body t after read) c.rest_from.ensures
    (subst (λ (r : BodyRead). IsBodyRead c.args.body c.rest_from.result.now after r) c.in-Ok-Going.field-0-is c.in-Ok-Going.ensures.ok) in
    let begun = c.requires.begun in
    let front : Front = record { request = request_of c.args.head []; body = c.args.body } in
    let f = new_front c.args.bytes.now c.args.start c.args.head c.args.body begun.1 begun.2 begun.3 in
    let kept = known.Front (record { request = request_of c.args.head []; body = after }) in
    let going = taken_going [] c.args.bytes.now c.args.start c.in-Ok-Going.len c.args.ended front after kept c.cut_or_more.result
    begun.0 f (here f.part f.kept) c.cut_or_more.ensures refl in
    let within : c.args.start + c.in-Ok-Going.len ≤ length c.args.bytes.now = going.0 in
    record { fits = omega arith }

-- the body came whole
pub returns-in-Ok-Whole : goal.returns-in-Ok-Whole
returns-in-Ok-Whole c =
    let after = c.read_body.new.body in
    let read = read.Whole c.in-Ok-Whole.found c.in-Ok-Whole.len in
    let here = subst (λ (t : List ℕ). IsBodyRead c.args.body t after read) c.rest_from.ensures
    (subst (λ (r : BodyRead). IsBodyRead c.args.body c.rest_from.result.now after r) c.in-Ok-Whole.field-0-is c.in-Ok-Whole.ensures.ok) in
    let begun = c.requires.begun in
    let whole = new_whole c.args.bytes.now c.args.start c.in-Ok-Whole.len c.args.head c.args.body after c.in-Ok-Whole.found
    begun.0 begun.1 begun.2 begun.3 here in
    c.take_whole.ensures c.args.bytes.now c.args.ended whole.0 whole.1 c.requires.kept

-- it goes on
pub returns-in-Ok-Going : goal.returns-in-Ok-Going
returns-in-Ok-Going c =
    let after = c.read_body.new.body in
    let read = read.Going c.in-Ok-Going.len in
    let here = subst (λ (t : List ℕ). IsBodyRead c.args.body t after read) c.rest_from.ensures
    (subst (λ (r : BodyRead). IsBodyRead c.args.body c.rest_from.result.now after r) c.in-Ok-Going.field-0-is c.in-Ok-Going.ensures.ok) in
    let begun = c.requires.begun in
    let front : Front = record { request = request_of c.args.head []; body = c.args.body } in
    let f = new_front c.args.bytes.now c.args.start c.args.head c.args.body begun.1 begun.2 begun.3 in
    let kept = known.Front (record { request = request_of c.args.head []; body = after }) in
    let going = taken_going [] c.args.bytes.now c.args.start c.in-Ok-Going.len c.args.ended front after kept c.cut_or_more.result
    begun.0 f (here f.part f.kept) c.cut_or_more.ensures refl in
    c.keep_front.ensures c.args.bytes.now c.args.ended going.0 going.1 going.2 c.requires.kept

-- it is refused
pub returns-in-Ok-Refused : goal.returns-in-Ok-Refused
returns-in-Ok-Refused c =
    let after = c.read_body.new.body in
    let read = read.Refused c.in-Ok-Refused.fault in
    let here = subst (λ (t : List ℕ). IsBodyRead c.args.body t after read) c.rest_from.ensures
    (subst (λ (r : BodyRead). IsBodyRead c.args.body c.rest_from.result.now after r) c.in-Ok-Refused.field-0-is c.in-Ok-Refused.ensures.ok) in
    let begun = c.requires.begun in
    let front : Front = record { request = request_of c.args.head []; body = c.args.body } in
    let f = new_front c.args.bytes.now c.args.start c.args.head c.args.body begun.1 begun.2 begun.3 in
    let fails = here f.part f.kept in
    taken_refused [] c.args.bytes.now c.args.start c.args.ended c.args.known.now front c.in-Ok-Refused.fault f fails.1 fails.2
    c.requires.kept
