-- One name that opens every definition of the model, for proofs by computation: `unfolding model`.
use Prim.Native.Nat.{ℕ}
use Rattle.runs.specs.Changes
use Rattle.book.specs.Book
use Rattle.book.specs.Layout
use Rattle.book.specs.Form
use Rattle.book.specs.Next
use Rattle.model.specs.Days
use Rattle.model.specs.Journal
use Rattle.model.specs.Enrol
use Rattle.model.specs.Backup
use Rattle.model.specs.Retire
use Rattle.model.specs.Collect
use Rattle.model.specs.Read
use Rattle.model.specs.Kept
use Rattle.model.specs.Restore
use Rattle.model.specs.Audit
use Rattle.model.specs.Convert
use Rattle.model.specs.OnBytes
use Rattle.model.specs.Views
use Rattle.model.specs.Plain
use Rattle.model.specs.PlainBackup
use Rattle.model.specs.PlainRetire
use Rattle.model.specs.Sides
use Rattle.model.specs.History
use Rattle.claims.specs.Claims

unfoldable pub model : ℕ
unfolding
    Changes.pair_count Changes.pair_at Changes.pairs Changes.change_count Changes.lbns Changes.prints_from Changes.blocks_from Changes.list_size
    Changes.change_at Changes.changes Changes.list_number
    Book.no_print Book.free_entry Book.no_slot Book.no_rec
    Layout.entry_size Layout.bytes Layout.book_of
    Form.between Form.sizes_as Form.layout_as Form.retention_ok Form.entry_ok Form.pbn_ok Form.rec_ok Form.after_ok Form.slot_ok Form.later_ok Form.book_ok
    Form.state_ok Form.second_ok Form.raw_ok Form.form_as
    Next.with_day Next.with_cursor Next.with_retention Next.with_entries Next.with_maps Next.with_slot Next.with_record Next.count_as Next.expiry_as
    Next.held_as Next.made_free Next.with_layout Next.fresh
    Days.kept Days.bad_day Days.not_after Days.bad_retention
    Journal.journal Journal.slots_of Journal.backup_count Journal.days Journal.is_retired Journal.no_volume Journal.no_living
    Enrol.enrol_number Enrol.enrol
    Backup.backup_number Backup.find_held Backup.find_free Backup.take_block Backup.place_free Backup.place_held Backup.place Backup.lowered
    Backup.lower Backup.raised Backup.name_block Backup.move_number Backup.moved Backup.move_to Backup.change_step Backup.begun Backup.closed
    Backup.backup
    Retire.mapped_cells Retire.retire_number Retire.clear_number Retire.cleared Retire.clear_cell Retire.retired Retire.retire
    Collect.collect_number Collect.is_over Collect.swept_entry Collect.collected Collect.collect
    Read.image Read.read_number Read.read
    Kept.kept_number Restore.run_number Restore.restore
    Audit.no_maps Audit.maps_sound Audit.count_sound Audit.expiry_sound Audit.prints_sound Audit.cell_sound Audit.current_sound Audit.backup_sound
    Audit.backups_sound Audit.audit
    Convert.room_number Convert.converted Convert.narrow_number Convert.to_two Convert.to_one Convert.refreshed_entry Convert.refreshed Convert.to_three
    OnBytes.pool_number OnBytes.spare_number OnBytes.format_number OnBytes.format_bytes OnBytes.enrol_bytes
    OnBytes.backed_bytes OnBytes.backup_bytes OnBytes.retired_bytes OnBytes.retire_bytes
    OnBytes.collected_bytes OnBytes.collect_bytes OnBytes.read_bytes OnBytes.read_number_bytes OnBytes.read_place_bytes
    OnBytes.restore_bytes OnBytes.audit_bytes
    Views.enrolled_number Views.output_number Views.used_of Views.volume_of Views.backups_of Views.cells_of Views.blocks_of Views.sizes_bytes
    Views.used_bytes Views.volume_bytes Views.with_room Views.backups_bytes Views.cells_bytes Views.blocks_bytes
    Plain.start Plain.at_day Plain.with_blocks Plain.with_retention Plain.with_taken Plain.current_maps Plain.enrol_number Plain.enrol Plain.marked
    Plain.collected Plain.collect_number Plain.collect Plain.read_number Plain.read
    PlainBackup.backup_number PlainBackup.find_held PlainBackup.find_free
    PlainBackup.take_block
    PlainBackup.place_free PlainBackup.place_held PlainBackup.place PlainBackup.moved
    PlainBackup.change_step PlainBackup.begun PlainBackup.closed PlainBackup.backup
    PlainRetire.retire_number PlainRetire.retired PlainRetire.retire
    Sides.step_of Sides.read_answer Sides.audit_answer Sides.ours Sides.plain Sides.ours_shown Sides.plain_shown
    History.no_history History.with_enrol History.with_sent History.with_left History.history_of History.day_of History.sent_block History.history_number
    History.history_read History.history_run_number History.history_restore
    Claims.changes_name
model = 0
