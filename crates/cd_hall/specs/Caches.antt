-- What a cache has, and what comes of a request that is begun without waiting.
use Rattle.std.specs.Prelude.{ℕ, Option, IfSome, option_map}
use Rattle.cd_gate.specs.declared.view.View.{View}
use Rattle.cd_hall.specs.declared.cache.Cache.{Cache}
use Rattle.cd_hall.specs.declared.cache.Hold.{Hold}
use Rattle.cd_hall.specs.declared.cache.Now.{Now}
use Rattle.cd_hall.specs.declared.cache.Now.TheVariants.{Ready, Stale, Worn}
use Rattle.cd_hall.specs.declared.hall.Ticket.{Ticket}
use Rattle.cd_hall.specs.Tickets.{HasConfiguration}

-- the serial of the configuration that the cache has, where it has one
abbrev pub cached : {A B : Type 0} {g : _} → Cache A B g → Option ℕ
cached {A} {B} {g} c = option_map (λ (t : Ticket A B g). t.serial) c.ticket

-- where it has one, this is the configuration of its serial, which is there
abbrev pub IsCacheOf : {T A B : Type 0} {g : _} → View T → Cache A B g → Type 0
IsCacheOf {T} {A} {B} {g} v c = IfSome c.ticket (λ (t : Ticket A B g). HasConfiguration v t)

-- it is said of the ticket, where the request began with one
abbrev pub IfReady : {A B : Type 0} {g : _} → Now A B g → (Ticket A B g → Type 0) → Type 0
IfReady (Ready ticket) P = P ticket
IfReady (Stale hold) P = Unit {0}
IfReady Worn P = Unit {0}

-- it is said of what holds the request, where it began without one
abbrev pub IfStale : {A B : Type 0} {g : _} → Now A B g → (Hold → Type 0) → Type 0
IfStale (Ready ticket) P = Unit {0}
IfStale (Stale hold) P = P hold
IfStale Worn P = Unit {0}

-- it holds where the request did not begin
abbrev pub IfWorn : {A B : Type 0} {g : _} → Now A B g → Type 0 → Type 0
IfWorn (Ready ticket) P = Unit {0}
IfWorn (Stale hold) P = Unit {0}
IfWorn Worn P = P
