-- `dhcpopt_extra::proved` meets its contract. Assumes nothing.
use Rattle.dhcpopt_extra.proofs.Listing.{listed_is_right, listing_room_is_enough}
use Rattle.dhcpopt_extra.proofs.proved.Goals as goal

pub returns : goal.returns
returns c = (listed_is_right, listing_room_is_enough)
