-- Which types cross.
use denote.RattleType.{RattleType}
use denote.Param.Send.{AllSend, AllSync, IsSend, IsSync, Frees, sendable, recorded_send, recorded_sync, struct_send, struct_sync}
use denote.Struct.Declared.{Declared, shape, row}
use denote.Struct.Struct.{Struct}
use Rattle.std.proofs.Crossing as heap
use Rattle.std.proofs.CrossingOver as over
use Rattle.std.proofs.MapsCrossingOver as maps
use Rattle.std.specs.declared.alloc.Allocator.{Ghosts}
use Rattle.chr_value.specs.contracts.atom.Atom as Atom
use Rattle.chr_rule.specs.contracts.rule_atom.RuleAtom as RuleAtom
use Rattle.chr_rule.specs.contracts.expression.Comparison as Comparison
use Rattle.chr_rule.specs.contracts.expression.BodyItem as BodyItem
use Rattle.chr_rule.specs.contracts.rule.Rule as Rule
use Rattle.chr_rule.specs.contracts.program.Program as Program
use Rattle.chr_store.specs.contracts.atoms.Atoms as Atoms
use Rattle.chr_store.specs.contracts.store.Store as Store
use Rattle.chr_store.specs.contracts.store.Store.TheInside as InsideStore
use Rattle.chr_search.specs.contracts.trial.Placed as Placed
use Rattle.chr_search.specs.contracts.trial.Trial as Trial
use Rattle.chr_rule.proofs.expression.Expr.TheLaws.TheKnot as expr
use Rattle.chr_rule.proofs.expression.Operator.TheSendSync as operator
use Rattle.chr_rule.proofs.expression.Relation.TheSendSync as relation
use Rattle.chr_rule.proofs.term.Term.TheLaws.TheKnot as term
use Rattle.chr_search.proofs.search.Search.TheSendSync as searched
use Rattle.chr_search.proofs.search.Instance.TheSendSync as instance
use Rattle.chr_value.proofs.value.Value.TheLaws.TheKnot as value
use Rattle.chr_value.proofs.names.Names.TheSendSync as names
use Rattle.chr_plan.proofs.plans.Plans.TheSendSync as plans
use Rattle.chr_store.proofs.buckets.Buckets.TheSendSync as buckets
use Rattle.chr_tickets.specs.contracts.ticket.Ticket as Ticket
use Rattle.chr_tickets.specs.contracts.tickets.Tickets as Tickets
use Rattle.chr_book.specs.contracts.book.Book as Book
use Rattle.std.specs.declared.sync.ledger.Ledger as ledger
use Rattle.chr_seats.proofs.counts.Counts.TheSendSync as counts
use Rattle.chr_seats.specs.declared.seat.PostLedger as posts
use Rattle.std.proofs.sync.ledger.Book.TheSendSync as ledgers
use Rattle.chr_versions.specs.declared.versions.Naming as naming
use Rattle.chr_versions.proofs.versions.Versions.TheSendSync as versions
use Rattle.chr_seats.specs.contracts.kept.Kept as Kept
use Rattle.chr_seats.specs.contracts.kept.Kept.TheInside as Inside
use Rattle.chr_shared.specs.contracts.shared.Locked as Locked
use Rattle.chr_shared.specs.contracts.shared.Shared as Shared

pub ruleset basis = (sendable, heap.crosses, over.crosses)

ruleset terms = (value.crosses, term.crosses)

ruleset parts = (terms, expr.crosses, operator.the_field_send, operator.the_field_sync, relation.the_field_send, relation.the_field_sync)

-- a struct crosses where its fields do
fields-send : (T : Declared) → AllSend (shape T).fields → IsSend (row T)
fields-send T all = recorded_send (Struct (shape T)) T.D T.to T.to_one (struct_send (shape T) all)

fields-sync : (T : Declared) → AllSync (shape T).fields → IsSync (row T)
fields-sync T all = recorded_sync (Struct (shape T)) T.D T.to T.to_one (struct_sync (shape T) all)

module _ (A : RattleType) (g : Ghosts A.Denot) where
  pub Atom-send : IsSend A → Frees g g.dealloc_token → IsSend (Atom.the_row A g)
  Atom-send s f = search (basis, value.crosses) fits 5000 depth 40

  pub RuleAtom-send : IsSend A → Frees g g.dealloc_token → IsSend (RuleAtom.the_row A g)
  RuleAtom-send s f = fields-send (RuleAtom.the_type A g) (search sendable, (search (basis, terms) fits 5000 depth 40, tt))

  pub RuleAtom-sync : IsSync A → IsSync (RuleAtom.the_row A g)
  RuleAtom-sync y = fields-sync (RuleAtom.the_type A g) (search sendable, (search (basis, terms) fits 5000 depth 40, tt))

  pub Comparison-send : IsSend A → Frees g g.dealloc_token → IsSend (Comparison.the_row A g)
  Comparison-send s f = search (basis, parts) fits 5000 depth 40

  pub Comparison-sync : IsSync A → IsSync (Comparison.the_row A g)
  Comparison-sync y = search (basis, parts) fits 5000 depth 40

  pub BodyItem-send : IsSend A → Frees g g.dealloc_token → IsSend (BodyItem.the_row A g)
  BodyItem-send s f = search (basis, parts) fits 5000 depth 40

  pub BodyItem-sync : IsSync A → IsSync (BodyItem.the_row A g)
  BodyItem-sync y = search (basis, parts) fits 5000 depth 40

  pub Rule-send : IsSend A → Frees g g.dealloc_token → IsSend (Rule.the_row A g)
  Rule-send s f = search (basis, RuleAtom-send, Comparison-send, BodyItem-send) fits 5000 depth 40

  pub Rule-sync : IsSync A → IsSync (Rule.the_row A g)
  Rule-sync y = search (basis, RuleAtom-sync, Comparison-sync, BodyItem-sync) fits 5000 depth 40

  pub Program-send : IsSend A → IsSync A → Frees g g.dealloc_token → IsSend (Program.the_row A g)
  Program-send s y f = search (basis, Rule-send, Rule-sync) fits 5000 depth 40

  pub Program-sync : IsSend A → IsSync A → Frees g g.dealloc_token → IsSync (Program.the_row A g)
  Program-sync s y f = search (basis, Rule-send, Rule-sync) fits 5000 depth 40

  pub Placed-send : IsSend A → Frees g g.dealloc_token → IsSend (Placed.the_row A g)
  Placed-send s f =
      let a = Atom-send s f in
      fields-send (Placed.the_type A g) (search sendable, (search sendable, (search (basis, a) fits 5000 depth 40, tt)))

  Atoms-send : IsSend A → Frees g g.dealloc_token → IsSend (Atoms.the_row A g)
  Atoms-send s f = search (basis, Atom-send) fits 5000 depth 40

  pub Store-send : IsSend A → Frees g g.dealloc_token → IsSend (Store.the_row A g)
  Store-send s f =
      let a = Atoms-send s f in
      let i = fields-send (InsideStore.the_type A g) (search (basis, a) fits 5000 depth 40, (search (basis, buckets.the_field_send) fits 5000 depth 40, (s, (search sendable, tt)))) in
      search (basis, i) fits 5000 depth 40

  pub Trial-send : IsSend A → IsSync A → Frees g g.dealloc_token → IsSend (Trial.the_row A g)
  Trial-send s y f = search (basis, Rule-send, Rule-sync, Placed-send) fits 5000 depth 40

  pub Ticket-send : IsSend A → IsSync A → Frees g g.dealloc_token → IsSend (Ticket.the_row A g)
  Ticket-send s y f = search (basis, Trial-send, Atom-send, searched.the_send) fits 5000 depth 40

  pub Tickets-send : IsSend A → IsSync A → Frees g g.dealloc_token → IsSend (Tickets.the_row A g)
  Tickets-send s y f = search (basis, maps.crosses, Ticket-send) fits 5000 depth 40

  pub Book-send : IsSend A → IsSync A → Frees g g.dealloc_token → IsSend (Book.the_row A g)
  Book-send s y f = search (basis, Program-send, Program-sync, plans.the_send, names.the_send, Store-send, instance.the_field_send, searched.the_send, Tickets-send, Atom-send) fits 5000 depth 40

module _ (L1 L2 A : RattleType) (p : posts.Ghosts L1.Denot) (l : ledger.Ghosts L1.Denot) (n : naming.Ghosts L1.Denot) (m : ledger.Ghosts L2.Denot) (g : Ghosts A.Denot) where
  Inside-send : IsSend A → IsSync A → Frees g g.dealloc_token → IsSend (Inside.the_row L1 L2 A p l n m g)
  Inside-send s y f =
      let b = Book-send A g s y f in
      fields-send (Inside.the_type L1 L2 A p l n m g) (
        search (basis, b) fits 5000 depth 40,
        (search (sendable, versions.the_send) fits 5000 depth 40, (search sendable, (search (sendable, counts.the_send) fits 5000 depth 40, (search (sendable, ledgers.the_send) fits 5000 depth 40, (search (sendable, ledgers.the_send) fits 5000 depth 40, tt))))),
      )

  pub Kept-send : IsSend A → IsSync A → Frees g g.dealloc_token → IsSend (Kept.the_row L1 L2 A p l n m g)
  Kept-send s y f =
      let i = Inside-send s y f in
      search (basis, i) fits 5000 depth 40

  Locked-send : IsSend A → IsSync A → Frees g g.dealloc_token → IsSend (Locked.the_row L1 L2 A p l n m g)
  Locked-send s y f =
      let k = Kept-send s y f in
      fields-send (Locked.the_type L1 L2 A p l n m g) (search (basis, k) fits 5000 depth 40, (search sendable fits 5000 depth 40, tt))

  pub Shared-sync : IsSend A → IsSync A → Frees g g.dealloc_token → IsSync (Shared.the_row L1 L2 A p l n m g)
  Shared-sync s y f =
      let k = Locked-send s y f in
      search (basis, k) fits 5000 depth 40

-- the same of the bounds that a function has on the memory of its lock
pub Shared-sync_by : {A : RattleType} {g : Ghosts A.Denot} → IsSend A → IsSync A → Frees g g.dealloc_token → (L1 L2 : RattleType) (p : posts.Ghosts L1.Denot) (l : ledger.Ghosts L1.Denot) (n : naming.Ghosts L1.Denot) (m : ledger.Ghosts L2.Denot) → IsSync (Shared.the_row L1 L2 A p l n m g)
Shared-sync_by s y f L1 L2 p l n m = Shared-sync L1 L2 _ p l n m _ s y f
