-- A chain may go to another thread, and threads may share it. Each step here is one former.
use denote.Builtin.{usize}
use denote.RattleType.{RattleType}
use denote.Param.Send.{IsSend, IsSync, sendable}
use denote.Param.SendFields.{declared_send, declared_sync, variants_send, variants_sync}
use Rattle.std.proofs.Crossing as std
use Rattle.std.proofs.option.Option.TheSendSync as option
use Rattle.std.specs.contracts.option.Option as Option
use Rattle.cd_text.proofs.list.List.TheSendSync as list
use Rattle.cd_text.proofs.text.Text.TheSendSync as text
use Rattle.cd_index.proofs.table.Table.TheSendSync as table
use Rattle.cd_text.specs.contracts.list.List as List
use Rattle.cd_text.specs.contracts.text.Text as Text
use Rattle.cd_match.proofs.matcher.Matcher.TheLaws.TheKnot as matchers
use Rattle.cd_match.specs.contracts.matcher.MatcherSet as MatcherSet
use Rattle.cd_match.specs.contracts.sets.Sets as Sets
use Rattle.cd_handlers.proofs.handler.Handler.TheSendSync as handler
use Rattle.cd_chain.specs.contracts.place.Place as Place
use Rattle.cd_chain.specs.contracts.chain.Chain as Chain
use Rattle.cd_chain.specs.contracts.index.Entry as Entry
use Rattle.cd_chain.specs.contracts.index.Index as Index

-- ---- it may go to another thread

list_send : (h : RattleType) → IsSend h → IsSend (List.the_row h)
list_send h s = list.the_send h s

matching_send : IsSend MatcherSet.the_row
matching_send = search (matchers.crosses, std.crosses, sendable) depth 60 fits 20000

sets_send : IsSend Sets.the_row
sets_send = declared_send Sets.the_type (list_send MatcherSet.the_row matching_send, tt)

group_send : IsSend (Option.the_row Text.the_row)
group_send = option.the_send Text.the_row text.the_send

entry_send : IsSend (Option.the_row Entry.the_row)
entry_send = option.the_send Entry.the_row (declared_send Entry.the_type (search sendable, (search sendable, tt)))

index_send : IsSend Index.the_row
index_send = declared_send Index.the_type (list_send usize (search sendable), (table.the_send, tt))

place_send : IsSend Place.the_row
place_send =
    variants_send Place.enum (
      (handler.the_send, (search sendable, tt)),
      (
        (sets_send, (group_send, (search sendable, (search sendable, (entry_send, tt))))),
        ((search sendable, (search sendable, tt)), ((search sendable, (search sendable, tt)), (tt, tt))),
      ),
    )

pub chain_send : IsSend Chain.the_row
chain_send = declared_send Chain.the_type (list_send Place.the_row place_send, (list_send Index.the_row index_send, (search sendable, (option.the_send usize (search sendable), tt))))

-- ---- threads may share it

list_sync : (h : RattleType) → IsSync h → IsSync (List.the_row h)
list_sync h s = list.the_sync h s

matching_sync : IsSync MatcherSet.the_row
matching_sync = search (matchers.crosses, std.crosses, sendable) depth 60 fits 20000

sets_sync : IsSync Sets.the_row
sets_sync = declared_sync Sets.the_type (list_sync MatcherSet.the_row matching_sync, tt)

group_sync : IsSync (Option.the_row Text.the_row)
group_sync = option.the_sync Text.the_row text.the_sync

entry_sync : IsSync (Option.the_row Entry.the_row)
entry_sync = option.the_sync Entry.the_row (declared_sync Entry.the_type (search sendable, (search sendable, tt)))

index_sync : IsSync Index.the_row
index_sync = declared_sync Index.the_type (list_sync usize (search sendable), (table.the_sync, tt))

place_sync : IsSync Place.the_row
place_sync =
    variants_sync Place.enum (
      (handler.the_sync, (search sendable, tt)),
      (
        (sets_sync, (group_sync, (search sendable, (search sendable, (entry_sync, tt))))),
        ((search sendable, (search sendable, tt)), ((search sendable, (search sendable, tt)), (tt, tt))),
      ),
    )

pub chain_sync : IsSync Chain.the_row
chain_sync = declared_sync Chain.the_type (list_sync Place.the_row place_sync, (list_sync Index.the_row index_sync, (search sendable, (option.the_sync usize (search sendable), tt))))
